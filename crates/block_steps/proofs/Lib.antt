pub mod Inboxes
pub mod Turns
pub mod Behind
pub mod Rings
pub mod Deals
