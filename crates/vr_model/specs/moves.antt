-- Moves from lists to neighbouring lists.
-- Read first Moves (the lists after a move; all moves of given lists, in order), then MoveTests. Kinds says what all
-- moves of a neighbourhood have in common. MoveLaws states what a move does to lists of a model.
pub mod Moves
pub mod MoveTests
pub mod Kinds
pub mod MoveLaws
