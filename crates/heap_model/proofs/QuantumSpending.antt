-- Lemmas about the definitions of specs/QuantumSpending.antt.
pub mod Quanta
pub mod Costs
