pub mod Resharing
pub mod ResharingRuns
pub mod ResharingLaws
pub mod Steps
pub mod Parts
pub mod Vectors
