-- The vehicles whose lists a move changes.
use Rattle.std.specs.Prelude.{◌≡◌, ℕ, false, ◌&&◌, nat_lt, List, length, Option, Some, None, MatchOption}
use Rattle.vr_model.specs.tables.Tables.{pair_at}
use Rattle.vr_model.specs.routes.Routes.{is_active}
use Rattle.vr_model.specs.declared.records.Model.{Model}
use Rattle.vr_model.specs.declared.neighbours.Move.{Move}
use Rattle.vr_model.specs.declared.neighbours.Move.TheVariants.{TwoOpt, OrOpt, Relocate, Exchange, Cross, RelocatePair}
use Rattle.vr_model.specs.declared.neighbours.Move.TheVariants.{PairActive, PairInactive, MakeActive, MakeInactive}
use Rattle.vr_model.specs.declared.neighbours.Move.TheVariants.{SwapActive}
use Rattle.vr_routes.specs.Seats.{IsSeat}
use Rattle.vr_known.specs.declared.touched.Touched.{Touched}

-- two vehicles
abbrev pub two : ℕ → ℕ → Option Touched
two v w = Some (record { first = v; second = w })

-- those whose lists a move changes, as far as its numbers name them. If it changes one list, the vehicle is there
-- twice. None of a move that takes a pair out or puts it elsewhere
abbrev pub named_by : Move → Option Touched
named_by (TwoOpt v a b) = two v v
named_by (OrOpt v a k t) = two v v
named_by (Relocate v a w t) = two v w
named_by (Exchange v a w b) = two v w
named_by (Cross v a w b) = two v w
named_by (RelocatePair p w s t) = None
named_by (PairActive p w s t) = two w w
named_by (PairInactive p) = None
named_by (MakeActive u w t) = two w w
named_by (MakeInactive v a) = two v v
named_by (SwapActive v a u) = two v v

-- those whose lists a move of lists changes. If a pair is put elsewhere, they are the one whose list has its pickup,
-- and the one that it goes to. None if there is no such pair or its pickup is in no list. Of other moves they are those
-- that the numbers name
abbrev pub AreFound : Model → List (List ℕ) → Move → Option Touched → Type 0
AreFound model lists (RelocatePair p w s t) found = let pickup = (pair_at model p).pickup in
    MatchOption found ((nat_lt p (length model.pairs) && is_active lists pickup) ≡ false)
    (λ both. (both.second ≡ w) × (k : ℕ) × IsSeat lists pickup both.first k)
AreFound model lists mv found = found ≡ named_by mv
