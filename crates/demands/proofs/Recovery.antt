pub mod Cutting
pub mod Resuming
pub mod Reading
pub mod Uncut
pub mod Again
pub mod Refusing
pub mod Torn
