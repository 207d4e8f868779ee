-- What a model says of its nodes, arcs and rows, and which models are well formed.
-- Read first Numbers (whole numbers and lists), then Limits, Tables (a row by its number), ModelRules, WellFormed.
pub mod Numbers
pub mod Limits
pub mod Tables
pub mod ModelRules
pub mod WellFormed
pub mod WellFormedOnce
