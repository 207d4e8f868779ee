pub mod Words
pub mod Inputs
pub mod Wishes
pub mod Reply
pub mod Causes
pub mod Promises
pub mod Ended
pub mod Logged
