pub mod Load
pub mod Vectors
pub mod LoadTree
pub mod Runnable
