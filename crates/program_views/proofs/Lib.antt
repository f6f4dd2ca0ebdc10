pub mod Entries
pub mod Given
pub mod Dealt
pub mod Undealt
pub mod Blind
pub mod Simulated
pub mod Corresponding
pub mod Nets
pub mod Twins
pub mod Shares
mod Samples
pub use Rattle.code_inputs.proofs.Offering
