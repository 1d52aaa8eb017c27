pub mod Lasts
pub mod Placing
pub mod Spacing
