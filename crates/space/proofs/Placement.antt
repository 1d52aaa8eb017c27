-- Lemmas about the definitions of specs/Placement.antt.
pub mod Tidying
pub mod Acting
pub mod Changing
pub mod Names
pub mod Census
