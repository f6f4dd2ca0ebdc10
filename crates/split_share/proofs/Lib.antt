pub mod Tails
pub mod Zeros
