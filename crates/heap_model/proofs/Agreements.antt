-- Lemmas about the definitions of specs/Agreement.antt.
pub mod Implied
pub mod Written
pub mod NewObject
