pub mod Listed
pub mod Witnessed
pub mod Unpromised
pub mod Used
