pub mod BalanceLemmas
pub mod ApartLemmas
pub mod ActiveLemmas
pub mod Paths
