pub mod Accepted
pub mod Inputs
pub mod Laws
pub use Rattle.written_code.specs.Sources
pub use Rattle.view_model.specs.TapeMaps
