pub mod Rows
pub mod ClientGates
pub mod Corresponding
pub mod Given
pub mod Kept
pub mod Twins
pub mod Told
