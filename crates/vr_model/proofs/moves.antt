-- Lemmas on moves.
pub mod MoveMembers
pub mod Times
pub mod Kept
pub mod KeptLists
pub mod Changed
