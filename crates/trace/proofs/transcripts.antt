pub mod Checking
pub mod Listing
