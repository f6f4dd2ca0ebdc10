pub mod Handed
pub mod Vectors
