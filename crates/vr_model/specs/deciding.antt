-- How 'there is a schedule' becomes a test that computes: each line has finitely many candidates, and they are
-- searched. Read first Testing, then ScheduleTests, Boxes, ChosenSchedule. These lemmas are among the definitions,
-- which need them.
pub mod Testing
pub mod ScheduleTests
pub mod Boxes
pub mod ChosenSchedule
pub mod LeastCumul
