-- Lemmas about the definitions of specs/Grey.antt.
pub mod Relinked
pub mod Few
