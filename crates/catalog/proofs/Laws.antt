pub mod Bounds
pub mod States
pub mod Output
pub mod Recovery
pub mod Check
pub mod Lookup
