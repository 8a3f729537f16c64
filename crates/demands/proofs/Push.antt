pub mod Appending
pub mod Ways
pub mod Batch
pub mod Places
pub mod Alone
pub mod Retrying
pub mod Full
pub mod Origin
