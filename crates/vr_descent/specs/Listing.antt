-- The moves that a generator has left.
use Rattle.std.specs.Prelude.{List, []}
use Rattle.vr_model.specs.declared.neighbours.Move.{Move}
use Rattle.vr_descent.specs.declared.generators.Generator.{Generator}
use Rattle.vr_descent.specs.declared.generators.Generator.TheVariants.{Nothing, TwoOpt, OrOpt, Relocate, Exchange}
use Rattle.vr_descent.specs.declared.generators.Generator.TheVariants.{Cross, RelocatePair, PairActive, PairInactive}
use Rattle.vr_descent.specs.declared.generators.Generator.TheVariants.{MakeActive, MakeInactive, SwapActive}

-- the moves that are left of a neighbourhood, none if none is in hand
abbrev pub left_in : Generator → List Move
left_in Nothing = []
left_in (TwoOpt moves) = moves
left_in (OrOpt moves) = moves
left_in (Relocate moves) = moves
left_in (Exchange moves) = moves
left_in (Cross moves) = moves
left_in (RelocatePair moves) = moves
left_in (PairActive moves) = moves
left_in (PairInactive moves) = moves
left_in (MakeActive moves) = moves
left_in (MakeInactive moves) = moves
left_in (SwapActive moves) = moves
