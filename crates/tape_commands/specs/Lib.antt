pub mod Map
pub mod Twin
pub mod Simulate
pub use Rattle.tape_twin.specs.FirstDifference
