pub mod Telling
pub mod Numbers
pub mod Unique
