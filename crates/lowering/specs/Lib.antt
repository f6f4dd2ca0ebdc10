pub mod Narrow
pub mod inner
pub use Rattle.code_model.specs.Meaning
