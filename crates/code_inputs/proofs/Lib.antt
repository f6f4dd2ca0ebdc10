pub mod Literals
pub mod Offering
pub mod Running
pub mod Samples
