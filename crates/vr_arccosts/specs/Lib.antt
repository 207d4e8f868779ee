pub mod Chains
pub mod Bounds
pub mod Along
pub mod ArcMoves
pub mod Runs
