pub mod Counting
pub mod Fronts
pub mod Periods
pub mod Sweeps
pub mod Windows
