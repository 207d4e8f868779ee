pub mod Givens
pub mod GivenLaws
pub mod Begin
pub mod ListFaults
pub mod Laws
