pub mod Listing
pub mod Shaded
