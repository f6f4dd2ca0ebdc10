pub mod OwnCode
pub mod LettingGo
pub mod EarlierGates
pub use Rattle.named_values.specs.Named
pub use Rattle.code_places.specs.Dealt
pub use Rattle.code_places.specs.Places
