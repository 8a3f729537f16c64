pub mod Sound
pub mod Push
pub mod Recovery
pub mod Lookup
pub mod Scan
pub mod History
pub mod Used
