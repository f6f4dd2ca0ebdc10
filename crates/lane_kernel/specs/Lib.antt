pub mod Lanewise
