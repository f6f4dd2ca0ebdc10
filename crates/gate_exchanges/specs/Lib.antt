pub mod Exchanges
pub mod Exchanged
pub use Rattle.shared_gates.specs.Blocked
pub use Rattle.shared_gates.specs.LocalGates
pub use Rattle.shared_gates.specs.Model
