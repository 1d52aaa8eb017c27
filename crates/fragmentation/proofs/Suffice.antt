-- Lemmas about the definitions of specs/Suffice.antt.
pub mod Paging
pub mod Moving
pub mod PageDemands
pub mod Joints
pub mod IsSparse
pub mod Sparse
pub mod SparseChanges
pub mod Sparses
