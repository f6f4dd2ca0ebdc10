pub mod Steps
pub mod Dealt
pub mod Passed
pub mod Read
