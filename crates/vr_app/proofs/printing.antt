pub mod Below
pub mod ReadBack
pub mod PrintedBack
pub mod ListsMet
pub mod PlansMet
pub mod Printable
pub mod AllMet
