pub mod VisitLists
pub mod ListTests
pub mod PlaceLemmas
pub mod PairLemmas
pub mod NodeLemmas
pub mod GroupLemmas
