pub mod Load
pub mod Opened
pub mod Run
pub mod Views
pub use Rattle.viewed_run.specs.Premises
pub use Rattle.viewed_run.specs.Deliveries
pub use Rattle.viewed_run.specs.CodeViews
pub use Rattle.viewed_run.specs.Programs
