pub mod Found
pub mod FoundLaws
pub mod Sums
pub mod Vectors
