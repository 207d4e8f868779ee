pub mod Parts
pub mod Sums
pub mod Bounds
pub mod Splices
