pub mod Lists
pub mod LineFeeds
pub mod Steps
pub mod Readings
