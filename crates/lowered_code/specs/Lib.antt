pub mod RawCodes
pub mod Laws
pub use Rattle.code_model.specs.Instructions
pub use Rattle.code_model.specs.Right
