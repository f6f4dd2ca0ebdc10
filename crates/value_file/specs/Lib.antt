pub mod Json
pub mod Values
pub mod Input
pub mod Reads
pub mod Public
pub mod PublicFile
