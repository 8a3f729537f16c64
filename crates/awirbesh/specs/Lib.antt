pub mod State
pub mod Check
pub mod Read
pub mod Push
pub mod Sequence
