pub mod Suffice
pub mod Tight
pub mod Gathering
pub mod Season
pub mod Flows
pub mod Configured
