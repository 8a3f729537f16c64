pub mod Lasting
pub mod Living
pub mod Cuts
pub mod Moving
pub mod Demands
pub mod Counting
pub mod Finding
pub mod Used
