pub mod ToldEvents
pub mod MakingSteps
pub mod Answered
