-- Lemmas on tests, numbers, sums, members of lists and rows. Read first Tests, Ranges and Totals.
pub mod Tests
pub mod Ranges
pub mod Totals
pub mod Refusals
pub mod Bounds
pub mod Members
