pub mod GivenLemmas
pub mod BeginLemmas
pub mod FaultLemmas
