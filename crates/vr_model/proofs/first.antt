-- Lemmas on the choice of the least.
pub mod LexOrder
pub mod LeastChoice
