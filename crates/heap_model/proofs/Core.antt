-- Lemmas about the definitions of specs/Core.antt.
pub mod Edits
pub mod Stays
pub mod NewParts
pub mod Kept
pub mod Trace
pub mod Sweep
pub mod Move
pub mod Write
pub mod NewObject
pub mod Same
pub mod LinkedParts
