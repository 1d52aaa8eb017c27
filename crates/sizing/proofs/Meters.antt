-- Lemmas about the definitions of specs/Meter.antt.
pub mod Living
pub mod Quanta
pub mod Seasons
pub mod Making
pub mod Leasts
pub mod Shifting
pub mod Asking
pub mod Events
pub mod Cycles
