pub mod tables
pub mod routes
pub mod schedules
pub mod deciding
pub mod moves
pub mod first
pub mod search
