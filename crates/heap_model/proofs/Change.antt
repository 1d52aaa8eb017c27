-- Lemmas about the definitions of specs/Change.antt.
pub mod Recording
pub mod Changed
