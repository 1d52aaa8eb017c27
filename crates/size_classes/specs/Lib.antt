pub mod Sizes
pub mod Parts
pub mod Need
pub mod Keys
pub mod Config
pub mod Cycle
