-- Lemmas about the definitions of specs/Reading.antt.
pub mod Hops
pub mod Shown
