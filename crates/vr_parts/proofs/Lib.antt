pub mod SumLemmas
pub mod PartLemmas
pub mod RowLemmas
pub mod EmptyLemmas
pub mod SpliceLemmas
