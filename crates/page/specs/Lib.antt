pub mod Tab
pub mod Size
pub mod Bytes
pub mod Mark
pub mod Entry
pub mod Data
pub mod Write
pub mod Private
