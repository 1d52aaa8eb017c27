pub mod Document
pub mod Drawn
pub mod Joined
pub mod Shown
