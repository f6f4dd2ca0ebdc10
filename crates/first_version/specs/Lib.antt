pub mod Rows
pub mod Meaning
pub mod Laws
pub mod Vectors
