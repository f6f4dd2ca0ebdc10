pub mod Accepted
pub mod Offering
pub mod Shared
pub mod Told
pub use Rattle.written_code.proofs.Verified
