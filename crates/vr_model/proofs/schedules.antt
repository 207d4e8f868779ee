-- Lemmas on lines and schedules. Read first LineParts, then Halves and Joining, Crossing and CrossingBack.
pub mod LineParts
pub mod Halves
pub mod Joining
pub mod Crossing
pub mod CrossingBack
pub mod LevelEnds
pub mod OneChosen
pub mod ChoiceLaws
pub mod Narrowing
pub mod LineArcs
pub mod LinesSound
pub mod RunCounts
pub mod Measures
pub mod NarrowLines
pub mod UnderRules
