-- Lists of visits, one for each vehicle: which are open, which are valid, what they cost.
-- Read first Routes, then Rules, then Costs. AssignmentLaws states what the lists of an
-- answer keep, CostLaws what they can cost.
pub mod Routes
pub mod Rules
pub mod Costs
pub mod AssignmentLaws
pub mod CostLaws
