pub mod Ended
pub mod Launches
mod LaunchesBack
pub mod Planned
pub mod Prepares
pub mod Ran
pub mod Joins
pub mod Refusals
pub mod Said
