pub mod Ends
pub mod Tests
pub mod Entries
