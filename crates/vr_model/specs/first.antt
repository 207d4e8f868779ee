-- The constructions of a first solution.
-- Read first Choosing (the least entry by a key) and Items, then the three constructions; FirstSolutions picks among
-- them.
pub mod Choosing
pub mod Items
pub mod PathCheapestArc
pub mod CheapestInsertion
pub mod SavingsJoins
pub mod FirstSolutions
