-- Lemmas about the definitions of specs/Cut.antt.
pub mod Reaching
pub mod Changes
