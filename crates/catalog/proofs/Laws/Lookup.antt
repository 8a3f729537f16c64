pub mod Shift
pub mod Saying
pub mod Rounds
pub mod Windows
pub mod Tests
pub mod Positions
pub mod Handing
