-- Lemmas about the definitions of specs/Event.antt.
pub mod Kept
pub mod Freed
