pub mod Sizes
pub mod Fitting
pub mod BlockRuns
pub mod BlockViews
pub mod Cuts
pub mod Blockables
pub mod WholeGates
