pub mod Sequences
pub mod Holding
pub mod Results
pub mod Fitting
pub mod Twins
