pub mod OtherGates
pub mod OwnGates
pub mod Made
pub mod Told
pub mod LettingGo
pub use Rattle.code_places.proofs.Again
pub use Rattle.code_places.proofs.Models
