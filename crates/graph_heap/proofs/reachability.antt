pub mod Places
pub mod Adding
pub mod Breadth
pub mod Routes
pub mod Entries
