pub mod Deeds
pub mod Sizes
pub mod Turns
pub mod OwnRuns
pub mod Stories
pub mod Programs
pub use Rattle.program_run.proofs.Shared
