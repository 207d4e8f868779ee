pub mod StableSorts
pub mod MappedLists
pub mod DrawnStrings
pub mod TakenNodes
pub mod KeysSoFar
pub mod ListCounts
pub mod LawLemmas
