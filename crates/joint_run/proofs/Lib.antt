pub mod InSteps
pub mod Blockwise
pub mod GateSteps
pub mod OutputSizes
pub mod GateLists
pub use Rattle.shared_gates.proofs.Models
