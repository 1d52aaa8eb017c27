pub mod Closed
pub mod Cutting
mod Figures
pub mod Table
pub mod InRange
