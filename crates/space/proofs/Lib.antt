pub mod Counts
pub mod Space
pub mod Placement
pub mod Rooms
pub mod Tally
pub mod Paces
pub mod Fittings
