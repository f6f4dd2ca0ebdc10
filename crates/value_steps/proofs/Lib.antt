pub mod Counts
pub mod Plans
pub mod ResultSizes
pub mod Sought
