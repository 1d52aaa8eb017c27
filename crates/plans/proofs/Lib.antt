mod Numbers
pub mod Rows
mod Words
mod Metering
mod Classes
mod SameCells
mod Lines
mod Windows
mod Shares
