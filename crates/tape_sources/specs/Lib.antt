pub mod FileTapes
pub mod Held
pub mod Lengths
pub mod Opening
pub mod Parties
pub mod SeedWords
pub mod Seeded
