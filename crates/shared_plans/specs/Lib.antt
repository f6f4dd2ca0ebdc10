pub mod GateRuns
pub mod Outcomes
pub mod Plans
pub mod Vectors
pub use Rattle.shared_gates.specs.Shares
pub use Rattle.shared_gates.specs.Model
pub use Rattle.shared_gates.specs.Computed
pub use Rattle.shared_gates.specs.Kinds
