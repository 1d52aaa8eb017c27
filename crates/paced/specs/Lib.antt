pub mod Logged
pub mod Cycles
pub mod Pacing
pub mod Rooms
pub mod Working
pub mod Planning
pub mod Bounds
