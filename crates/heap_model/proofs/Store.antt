-- Lemmas about the definitions of specs/Store.antt.
pub mod Allocated
pub mod Apart
