pub mod Numbers
pub mod Solution
