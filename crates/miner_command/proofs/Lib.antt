pub mod Drawn
pub mod Opened
pub mod Played
pub mod Planned
