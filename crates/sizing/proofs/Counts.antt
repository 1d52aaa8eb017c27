-- Lemmas about the definitions of specs/Counts.antt.
pub mod Counting
pub mod Paging
