pub mod Counts
pub mod Season
pub mod Measured
pub mod Reckoned
pub mod Promises
pub mod Meter
pub mod Measuring
