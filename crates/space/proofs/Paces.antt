-- Lemmas about the definitions of specs/Pace.antt.
pub mod Pacing
pub mod Spending
pub mod Unmoved
pub mod Shifted
pub mod Moved
pub mod Lasting
