pub mod Loops
pub mod Names
pub mod Entries
pub mod Refusals
pub mod Floats
pub mod RoundTrip
pub mod Forms
