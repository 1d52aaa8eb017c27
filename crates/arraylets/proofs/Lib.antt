mod Figures
pub mod Linking
pub mod Lists
pub mod Objects
pub mod OneCell
pub mod Stepping
