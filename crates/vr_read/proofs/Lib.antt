pub mod RuleLoops
pub mod Uses
pub mod Distinct
pub mod WellFormedVehicles
pub mod WellFormedDimensions
pub mod WellFormedSearches
pub mod WellFormedVisits
pub mod WellFormedModels
