pub mod Words
pub mod Rounds
mod Walk
