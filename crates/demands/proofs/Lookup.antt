pub mod AnyGuess
pub mod Right
pub mod Refusing
pub mod Placed
pub mod NeverTen
pub mod Held
