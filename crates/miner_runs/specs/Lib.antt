-- What is promised of three miners that run code, each by its own values alone.
pub mod OwnRuns
pub mod Stories
pub mod Programs
pub mod Laws
pub use Rattle.program_run.specs.Accepted
pub use Rattle.program_run.specs.Dealt
pub use Rattle.miner_core.specs.OwnCode
pub use Rattle.code_runs.specs.Telling
pub use Rattle.code_runs.specs.Runs
pub use Rattle.code_places.specs.Places
pub use Rattle.program_run.specs.RawCodes
pub use Rattle.program_run.specs.Codes
pub use Rattle.program_run.specs.Inputs
pub use Rattle.program_run.specs.Offers
pub use Rattle.program_run.specs.Reports
