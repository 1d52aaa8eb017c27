pub mod Intervals
pub mod Timetable
pub mod Schedule
