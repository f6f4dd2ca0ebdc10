pub mod Whole
pub mod Next
pub mod Arrived
pub mod Merged
pub mod Left
