-- Lemmas about the definitions of specs/Tight.antt.
pub mod Free
pub mod Taken
pub mod IsFew
pub mod Few
pub mod FewTaken
pub mod IsLeftover
pub mod Leftover
pub mod Emptied
pub mod Evacuating
pub mod Growing
pub mod Actions
