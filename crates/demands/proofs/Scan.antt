pub mod Listed
pub mod Handed
pub mod Right
pub mod OneListing
pub mod Refusing
pub mod Inside
pub mod Held
