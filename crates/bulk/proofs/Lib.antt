pub mod InOrder
pub mod Lists
pub mod Rows
pub mod Runs
pub mod Moving
pub mod Filling
pub mod Events
