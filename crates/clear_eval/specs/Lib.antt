pub mod Offers
pub mod Reports
pub mod ToldRuns
pub mod inner
