pub mod Loads
pub mod Kept
