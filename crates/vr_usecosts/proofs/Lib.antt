pub mod FixedLemmas
pub mod GroupLemmas
pub mod SavingLemmas
