-- Lemmas about the definitions of specs/Collector.antt.
pub mod Acts
pub mod Coherence
pub mod Barrier
pub mod Words
