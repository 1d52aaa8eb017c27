pub mod Tight
pub mod Gathering
pub mod Season
pub mod Suffice
pub mod Flow
pub mod Configured
