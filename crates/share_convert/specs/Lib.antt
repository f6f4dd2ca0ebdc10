pub mod Bits
pub mod ConvStrand
pub mod Converting
pub mod BitLaws
pub mod ConvertingLaws
pub mod Steps
pub mod Parts
pub mod Vectors
