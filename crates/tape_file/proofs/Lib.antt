pub mod WordLists
pub mod OfWords
pub mod Laws
pub mod OwnLaws
pub mod Memory
pub mod SeedLaws
