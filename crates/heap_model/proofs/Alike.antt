-- Lemmas about the definitions of specs/Alike.antt.
pub mod Sameness
pub mod Effects
pub mod Founded
