pub mod Places
pub mod Twins
pub mod Laws
pub use Rattle.gate_laws.specs.Dealt
