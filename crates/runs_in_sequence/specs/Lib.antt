pub mod Sequences
pub mod Results
pub mod Twins
pub mod Vectors
