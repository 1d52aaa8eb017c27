pub mod Copied
pub mod Fields
mod Figures
pub mod Frames
pub mod Fresh
pub mod Packed
pub mod Written
