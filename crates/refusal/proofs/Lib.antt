pub mod Arms
pub mod Cases
pub mod Unique
