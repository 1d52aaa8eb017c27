-- Lemmas about the definitions of specs/Fitting.antt.
pub mod Needed
pub mod Configured
