pub mod Images
pub mod Records
pub mod MapFiles
