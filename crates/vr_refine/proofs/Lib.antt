pub mod ReadLemmas
pub mod BuiltLemmas
pub mod FoundLemmas
pub mod BeginLemmas
pub mod RefineLemmas
pub mod PromiseLemmas
pub mod RunLemmas
