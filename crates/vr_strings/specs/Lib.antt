pub mod Sorting
pub mod Zeros
pub mod Strings
pub mod Turns
pub mod ItemKeys
pub mod Rings
pub mod DrawLaws
