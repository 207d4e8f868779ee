-- Worked examples, computed or proved by hand.
pub mod WorkedModels
pub mod WorkedSchedules
pub mod WorkedSolutions
pub mod WorkedWellFormed
