pub mod SplitStrand
pub mod Splitting
pub mod SplittingLaws
pub mod Steps
pub mod Parts
pub mod Vectors
