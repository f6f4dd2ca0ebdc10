pub mod Growing
pub mod Functions
pub mod Listing
pub mod Keys
pub mod Bound
pub mod ReachedLists
pub mod Verdicts
