pub mod Asked
pub mod Simulated
pub mod Twins
