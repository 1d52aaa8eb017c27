-- Lemmas about the definitions of specs/Measured.antt.
pub mod Events
pub mod Summing
