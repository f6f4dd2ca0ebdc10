pub mod Fits
pub mod Laws
pub mod Matched
pub mod NumberLemmas
pub mod Options
pub mod Others
pub mod Seeds
