pub use Rattle.program_views.specs.Accepted
pub mod Pairs
pub mod Alike
pub mod FirstDifference
pub use Rattle.program_views.specs.Views
pub use Rattle.program_views.specs.TapeMaps
pub mod Maps
pub mod Stands
