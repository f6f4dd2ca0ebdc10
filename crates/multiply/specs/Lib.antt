pub mod Products
pub mod MulStrand
pub mod ProductLaws
pub mod Multiplying
pub mod MultiplyingLaws
pub mod Steps
pub mod Parts
pub mod Vectors
