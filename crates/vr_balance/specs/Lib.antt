pub mod Balances
pub mod Ends
