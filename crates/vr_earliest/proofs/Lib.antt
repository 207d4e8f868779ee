pub mod FloorLemmas
pub mod WayLemmas
pub mod KeptLemmas
pub mod PartLemmas
pub mod Earlier
pub mod NoEarlier
pub mod EarlyLemmas
pub mod WritingLemmas
