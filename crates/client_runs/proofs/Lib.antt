pub mod SightingSteps
pub mod GivenShares
pub mod AlikeRuns
