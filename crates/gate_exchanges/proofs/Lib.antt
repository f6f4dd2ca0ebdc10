pub mod Blockables
pub mod OneGate
pub mod Sizes
pub use Rattle.shared_gates.proofs.Models
