pub mod Counts
pub mod Measures
pub mod Meters
pub mod Measurements
pub mod Promises
