pub mod Weights
pub mod SettledParts
pub mod Placed
pub mod Behind
pub mod Choices
pub mod Loops
pub mod Sequences
pub mod Noting
pub mod Short
pub mod Bodies
pub mod Ends
mod Pushed
pub use Rattle.code_model.proofs.Settled
