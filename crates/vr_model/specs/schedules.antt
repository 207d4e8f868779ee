-- What one dimension asks of one vehicle with one list, and the schedules that meet it.
-- Read first Lines, then Schedules (the relation), Choices (the same as functions and tests), Tight and Narrowed (the
-- schedule that a rule chooses). Levels, ChosenLaws and SoundLines state laws; Runs and Weights count the runs of sets.
pub mod Lines
pub mod Schedules
pub mod SoundLines
pub mod Choices
pub mod Levels
pub mod ChosenLaws
pub mod Weights
pub mod Runs
pub mod Tight
pub mod Narrowed
pub mod RuleLaws
