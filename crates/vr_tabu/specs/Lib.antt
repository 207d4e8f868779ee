pub mod Changed
pub mod TabuSearches
pub mod Parts
pub mod Tabus
pub mod Rounds
pub mod Standing
pub mod Answering
pub mod Bounding
