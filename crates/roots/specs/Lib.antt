pub mod RootTable
pub mod Used
