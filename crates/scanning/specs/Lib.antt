pub mod Range
pub mod Scan
pub mod Step
pub mod Private
