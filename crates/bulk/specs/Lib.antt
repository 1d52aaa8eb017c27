pub mod Lists
pub mod InOrder
