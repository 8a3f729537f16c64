pub mod Pick
pub mod Refusal
