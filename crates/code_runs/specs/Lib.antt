-- What is promised of three miners that run code.
pub mod Telling
pub mod Handing
pub mod Runs
pub mod Laws
pub mod ClientTold
pub mod ClientLaws
pub use Rattle.gate_laws.specs.Dealt
pub use Rattle.code_places.specs.Places
pub use Rattle.shared_gates.specs.Model
