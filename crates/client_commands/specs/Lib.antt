pub mod Map
pub mod Simulate
pub mod Difference
pub mod Twin
