pub mod Images
pub mod Disk
pub mod Plan
pub mod Calls
pub mod LoggedFile
pub mod LoggedFiles
pub mod MemDisk
