pub mod Past
pub mod Accounts
pub mod Ring
pub mod Lists
pub mod Turns
pub mod Members
pub mod Merged
pub mod Methods
