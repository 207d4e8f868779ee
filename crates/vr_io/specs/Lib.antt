pub mod Edges
pub mod Whole
pub mod Kept
pub mod Script
