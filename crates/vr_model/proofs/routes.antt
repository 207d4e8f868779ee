-- Lemmas on lists and routes, and the assignment of lists.
pub mod Lists
pub mod PathCosts
pub mod Assigned
pub mod Bounded
pub mod CostBounds
pub mod CostFits
