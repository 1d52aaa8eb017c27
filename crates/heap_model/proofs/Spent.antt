-- Lemmas about the definitions of specs/Spent.antt.
pub mod Actions
pub mod Mutators
