pub mod MapPlanned
pub mod OpenLines
pub mod TwinPlanned
pub mod SimulatePlanned
pub use Rattle.tape_twin.proofs.FirstDifferences
pub use Rattle.view_simulator.proofs.Runs
