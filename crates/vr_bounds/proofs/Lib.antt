pub mod GapLemmas
pub mod AgeLemmas
pub mod KeptLemmas
