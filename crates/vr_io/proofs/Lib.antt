pub mod EdgeLemmas
pub mod KeptLemmas
