pub mod Made
pub mod CellPosition
pub mod Cells
pub mod Stored
