pub mod Listing
pub mod Answering
pub mod Scanned
pub mod Refused
pub mod Searching
pub mod Incumbents
pub mod Asking
pub mod Ending
