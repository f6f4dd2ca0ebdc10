pub mod Ends
pub mod Views
pub mod Openings
pub use Rattle.program_run.specs.Accepted
pub mod Named
