-- Lemmas about the definitions of specs/Action.antt.
pub mod Collecting
pub mod Moving
pub mod Each
pub mod Shading
pub mod Names
