pub mod Start
pub mod Forward
pub mod Handing
pub mod Range
