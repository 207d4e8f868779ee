pub mod Blocks
pub mod Listing
pub mod Locality
pub mod Nests
pub mod Passing
pub mod Touching
