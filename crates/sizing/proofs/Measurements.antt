-- Lemmas about the definitions of specs/Measuring.antt.
pub mod Seeing
