mod DealerWords
pub mod Whole
pub mod Differences
pub mod FirstDifferences
pub mod Runs
mod Blocks
mod Looks
pub mod Passing
mod Walking
