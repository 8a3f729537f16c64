pub mod Window
pub mod Sequence
pub mod Known
pub mod History
