pub mod Texts
pub mod Calls
pub mod Agreeing
pub mod Failures
pub mod Vectors
