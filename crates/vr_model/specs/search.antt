-- The searches that improve a solution. Read first Scans, then Outcomes (the state of a search, and how it ends),
-- Descents, GuidedSearches. The others state laws.
pub mod Scans
pub mod Outcomes
pub mod Descents
pub mod GuidedSearches
pub mod ChoosingLaws
pub mod SearchLaws
