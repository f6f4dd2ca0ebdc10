pub mod Tails
pub mod Crossings
