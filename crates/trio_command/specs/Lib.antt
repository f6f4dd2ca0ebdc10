pub mod Deciding
pub mod Launching
pub mod Trio
pub mod inner
pub mod Held
pub mod Join
