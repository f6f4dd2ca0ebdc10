pub mod Opening
pub mod OpeningRuns
pub mod OpeningLaws
pub mod Steps
pub mod Parts
pub mod Vectors
pub use Rattle.reshare.specs.Resharing
pub use Rattle.reshare.specs.ResharingLaws
