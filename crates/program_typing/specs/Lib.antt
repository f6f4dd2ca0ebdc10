pub mod Existence
pub mod Answer
