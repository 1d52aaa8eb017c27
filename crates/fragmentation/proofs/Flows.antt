-- Lemmas about the definitions of specs/Flow.antt.
pub mod Words
pub mod Kept
pub mod Counted
pub mod Marking
pub mod Moving
pub mod Spending
pub mod Targets
pub mod Quanta
pub mod Flowing
pub mod Suffices
pub mod Lasting
