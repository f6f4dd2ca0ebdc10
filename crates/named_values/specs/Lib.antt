pub mod Named
pub mod Laws
pub mod Besides
pub use Rattle.code_model.specs.Machine
pub use Rattle.code_model.specs.Courses
pub use Rattle.code_model.specs.Meaning
