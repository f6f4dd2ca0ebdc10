pub mod Says
pub mod Laws
pub use Rattle.well_typed.specs.Programs
pub use Rattle.well_typed.specs.Sources
pub mod WrittenSources
pub mod WritingLaws
pub mod Narrow
pub use Rattle.lowered_code.specs.RawCodes
