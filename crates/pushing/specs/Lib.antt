pub mod Push
pub mod Private
