pub mod Drawing
pub mod Filling
pub mod Opened
pub mod Parties
pub mod ReadAhead
pub mod Splits
