-- What all moves of a neighbourhood have in common: whose rows they are, and whether they change activity.
use Rattle.std.specs.Prelude.{ℕ, Bool, false, true, ◌==◌}
use Rattle.vr_model.specs.tables.Limits.{most_vehicles, most_pairs}
use Rattle.vr_model.specs.tables.WellFormed.{neighbourhood_number}
use Rattle.vr_model.specs.declared.neighbours.Move.{Move}
use Rattle.vr_model.specs.declared.neighbours.Move.TheVariants.{TwoOpt, OrOpt, Relocate, Exchange, Cross, RelocatePair}
use Rattle.vr_model.specs.declared.neighbours.Move.TheVariants.{PairActive, PairInactive, MakeActive, MakeInactive}
use Rattle.vr_model.specs.declared.neighbours.Move.TheVariants.{SwapActive}
use Rattle.vr_model.specs.declared.neighbours.Neighbourhood.{Neighbourhood}
use Rattle.vr_model.specs.declared.neighbours.Neighbourhood.TheVariants as all
use Rattle.vr_model.specs.declared.neighbours.Owner.{Owner}
use Rattle.vr_model.specs.declared.neighbours.Owner.TheVariants as own

-- the neighbourhood of a move
abbrev pub kind_of : Move → Neighbourhood
kind_of (TwoOpt v a b) = all.TwoOpt
kind_of (OrOpt v a k t) = all.OrOpt
kind_of (Relocate v a w t) = all.Relocate
kind_of (Exchange v a w b) = all.Exchange
kind_of (Cross v a w b) = all.Cross
kind_of (RelocatePair p w s t) = all.RelocatePair
kind_of (PairActive p w s t) = all.PairActive
kind_of (PairInactive p) = all.PairInactive
kind_of (MakeActive u w t) = all.MakeActive
kind_of (MakeInactive v a) = all.MakeInactive
kind_of (SwapActive v a u) = all.SwapActive

-- two neighbourhoods are the same
abbrev pub is_same_kind : Neighbourhood → Neighbourhood → Bool
is_same_kind kind other = neighbourhood_number kind == neighbourhood_number other

-- who owns a row of moves of a neighbourhood: the vehicle that they name first, their pair, or nobody, as all its moves
-- are one row
abbrev pub owner : Neighbourhood → Owner
owner all.TwoOpt = own.Vehicle
owner all.OrOpt = own.Vehicle
owner all.Relocate = own.Vehicle
owner all.Exchange = own.Vehicle
owner all.Cross = own.Vehicle
owner all.RelocatePair = own.Pair
owner all.PairActive = own.Nobody
owner all.PairInactive = own.Pair
owner all.MakeActive = own.Nobody
owner all.MakeInactive = own.Nobody
owner all.SwapActive = own.Nobody

-- its rows are vehicles
abbrev pub is_by_vehicle : Owner → Bool
is_by_vehicle own.Vehicle = true
is_by_vehicle own.Pair = false
is_by_vehicle own.Nobody = false

-- its rows are pairs
abbrev pub is_by_pair : Owner → Bool
is_by_pair own.Vehicle = false
is_by_pair own.Pair = true
is_by_pair own.Nobody = false

-- how many rows an owner makes at most, in any model
abbrev pub rows_by : Owner → ℕ
rows_by own.Vehicle = most_vehicles
rows_by own.Pair = most_pairs
rows_by own.Nobody = 1

-- how many rows a neighbourhood has at most, in any model
abbrev pub rows_of : Neighbourhood → ℕ
rows_of kind = rows_by (owner kind)

-- its moves change which visits are active
abbrev pub changes_activity : Neighbourhood → Bool
changes_activity all.TwoOpt = false
changes_activity all.OrOpt = false
changes_activity all.Relocate = false
changes_activity all.Exchange = false
changes_activity all.Cross = false
changes_activity all.RelocatePair = false
changes_activity all.PairActive = true
changes_activity all.PairInactive = true
changes_activity all.MakeActive = true
changes_activity all.MakeInactive = true
changes_activity all.SwapActive = true
