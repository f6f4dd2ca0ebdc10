pub mod Several
pub mod Crosses
pub use Rattle.proto_core.proofs.Each
