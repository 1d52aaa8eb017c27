pub mod Stepping
pub mod Logging
pub mod Seeing
pub mod Entering
pub mod Columns
