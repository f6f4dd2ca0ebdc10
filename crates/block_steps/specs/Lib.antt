pub mod Inboxes
pub mod Outcomes
pub mod Dealt
pub mod Pendings
