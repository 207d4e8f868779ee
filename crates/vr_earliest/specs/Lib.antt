pub mod Floors
pub mod Guides
pub mod Ways
pub mod Rests
pub mod Entries
pub mod Kept
pub mod Laws
pub mod Earlies
