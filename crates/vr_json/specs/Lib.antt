pub mod Causes
pub mod Paths
pub mod Places
pub mod Reading
pub mod Kinds
pub mod Trees
