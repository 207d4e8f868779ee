pub mod Fixed
pub mod Groups
