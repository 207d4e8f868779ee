-- Blocks of moves: those of one kind and row with the same last vehicle. What is known of blocks.
use Rattle.std.specs.Prelude.{◌≡◌, ◌≢◌, ℕ, ◌+◌, ◌<◌, Bool, false, true, ◌&&◌, ◌||◌, cond, nat_lt}
use Rattle.std.specs.Prelude.{List, [], ◌∷◌, slice_index_or, length, Option, Some, None, IsTrue}
use Rattle.vr_model.specs.routes.Routes.{route, holds, is_active}
use Rattle.vr_model.specs.tables.Tables.{pair_at}
use Rattle.vr_model.specs.moves.Kinds.{changes_activity, is_by_pair, is_by_vehicle, is_same_kind}
use Rattle.vr_model.specs.moves.Kinds.{kind_of, owner, rows_of}
use Rattle.vr_model.specs.moves.Moves.{all_neighbourhoods}
use Rattle.vr_model.specs.declared.records.Model.{Model}
use Rattle.vr_model.specs.declared.neighbours.Move.{Move}
use Rattle.vr_model.specs.declared.neighbours.Move.TheVariants.{TwoOpt, OrOpt, Relocate, Exchange, Cross, RelocatePair}
use Rattle.vr_model.specs.declared.neighbours.Move.TheVariants.{PairActive, PairInactive, MakeActive, MakeInactive}
use Rattle.vr_model.specs.declared.neighbours.Move.TheVariants.{SwapActive}
use Rattle.vr_model.specs.declared.neighbours.Neighbourhood.{Neighbourhood}

-- the row of a move among those of its neighbourhood: the vehicle that it names first, or its pair. It is 0 if nobody
-- owns the rows of its neighbourhood
abbrev pub first_of : Move → ℕ
first_of (TwoOpt v a b) = v
first_of (OrOpt v a k t) = v
first_of (Relocate v a w t) = v
first_of (Exchange v a w b) = v
first_of (Cross v a w b) = v
first_of (RelocatePair p w s t) = p
first_of (PairActive p w s t) = 0
first_of (PairInactive p) = p
first_of (MakeActive u w t) = 0
first_of (MakeInactive v a) = 0
first_of (SwapActive v a u) = 0

-- the vehicle that a move names last, or 0 if it names none
abbrev pub second_of : Move → ℕ
second_of (TwoOpt v a b) = v
second_of (OrOpt v a k t) = v
second_of (Relocate v a w t) = w
second_of (Exchange v a w b) = w
second_of (Cross v a w b) = w
second_of (RelocatePair p w s t) = w
second_of (PairActive p w s t) = w
second_of (PairInactive p) = 0
second_of (MakeActive u w t) = w
second_of (MakeInactive v a) = v
second_of (SwapActive v a u) = v

-- a vehicle whose list a move changes, beside its second one or the same. Of relocate_pair and pair_inactive it is the
-- vehicle that serves the pair. Of any other move it is the first vehicle that the move names
abbrev pub IsSource : Model → List (List ℕ) → Move → ℕ → Type 0
IsSource model lists (TwoOpt v a b) x = x ≡ v
IsSource model lists (OrOpt v a k t) x = x ≡ v
IsSource model lists (Relocate v a w t) x = x ≡ v
IsSource model lists (Exchange v a w b) x = x ≡ v
IsSource model lists (Cross v a w b) x = x ≡ v
IsSource model lists (RelocatePair p w s t) x = IsTrue (holds (route lists x) (pair_at model p).pickup)
IsSource model lists (PairActive p w s t) x = x ≡ w
IsSource model lists (PairInactive p) x = IsTrue (holds (route lists x) (pair_at model p).pickup)
IsSource model lists (MakeActive u w t) x = x ≡ w
IsSource model lists (MakeInactive v a) x = x ≡ v
IsSource model lists (SwapActive v a u) x = x ≡ v

-- what is remembered. `seen`: for each row, when its moves were last found not to be acceptable. `changed`: for each
-- vehicle, when its list, or the penalty of an arc of it, last changed. `active`: when the activity of visits last
-- changed. `clock`: the time. `learns`: whether anything is ever learned
pub record Memory : Type 0 where
  pub seen : List ℕ
  pub changed : List ℕ
  pub active : ℕ
  pub clock : ℕ
  pub learns : Bool

-- something may be learned of moves
abbrev pub Learns : Memory → Type 0
Learns memory = IsTrue memory.learns

-- without stamps nothing is known, and nothing is ever learned
abbrev pub none : Memory
none = record { seen = []; changed = []; active = 0; clock = 0; learns = false }

-- the memory of stamps that may be there
abbrev pub memory_of : Option Memory → Memory
memory_of None = none
memory_of (Some stamps) = record {
  seen = stamps.seen;
  changed = stamps.changed;
  active = stamps.active;
  clock = stamps.clock;
  learns = true;
}

-- how many rows those of some neighbourhoods have that come before one
abbrev pub rows_before : Neighbourhood → List Neighbourhood → ℕ
rows_before kind [] = 0
rows_before kind (n ∷ ns) = cond (is_same_kind n kind) 0 (rows_of n + rows_before kind ns)

-- the place of the stamp of a row: the rows of a neighbourhood follow those of the neighbourhoods before it
abbrev pub stamp_of : Neighbourhood → ℕ → ℕ
stamp_of kind row = rows_before kind all_neighbourhoods + row

-- when the moves of a row were last found not to be acceptable
abbrev pub seen_at : Memory → Neighbourhood → ℕ → ℕ
seen_at memory kind row = slice_index_or memory.seen (stamp_of kind row) 0

-- when the list of a vehicle, or the penalty of an arc of it, last changed
abbrev pub changed_at : Memory → ℕ → ℕ
changed_at memory v = slice_index_or memory.changed v 0

-- the moves of a row were found not to be acceptable after a vehicle last changed, in its list or in the penalty of an
-- arc of it
abbrev pub is_later : Memory → Neighbourhood → ℕ → ℕ → Bool
is_later memory kind row v = nat_lt (changed_at memory v) (seen_at memory kind row)

-- when what the moves of a row have in common last changed. If they change which visits are active, that is it. Else
-- it is the list of the vehicle that owns the row, or the penalty of an arc of it. For a pair that is put elsewhere it
-- is 0: its row is forgotten once the vehicle that serves the pair has another list
abbrev pub common_change : Memory → Neighbourhood → ℕ → ℕ
common_change memory kind row =
    cond (changes_activity kind) memory.active (cond (is_by_vehicle (owner kind)) (changed_at memory row) 0)

-- the moves of a block were found not to be acceptable after the last change of anything that they depend on
abbrev pub is_known : Memory → Neighbourhood → ℕ → ℕ → Bool
is_known memory kind row w =
    nat_lt (common_change memory kind row) (seen_at memory kind row) && is_later memory kind row w

-- the block of a move is known
abbrev pub covers : Memory → Move → Bool
covers memory mv = is_known memory (kind_of mv) (first_of mv) (second_of mv)

-- if the row of a pair is known, the vehicle that serves it has not changed since, in its list or in the penalty of an
-- arc
abbrev pub AreSettled : Model → List (List ℕ) → Memory → Type 0
AreSettled model lists memory =
    (kind : Neighbourhood) (p w v : ℕ) → IsTrue (is_by_pair (owner kind)) → p < length model.pairs
    → IsTrue (is_known memory kind p w) → IsTrue (holds (route lists v) (pair_at model p).pickup)
    → IsTrue (is_later memory kind p v)

-- all moves of a row come before a move in the list of some neighbourhoods
abbrev pub is_behind : List Neighbourhood → Neighbourhood → ℕ → Move → Bool
is_behind [] kind row mv = false
is_behind (n ∷ ns) kind row mv = cond (is_same_kind n (kind_of mv))
    (is_same_kind kind (kind_of mv) && nat_lt row (first_of mv))
    (is_same_kind kind n || is_behind ns kind row mv)

-- a neighbourhood is one of a list
abbrev pub is_kind_of : List Neighbourhood → Neighbourhood → Bool
is_kind_of [] kind = false
is_kind_of (n ∷ ns) kind = is_same_kind kind n || is_kind_of ns kind

-- two lists have the same lists for the vehicles of a move, and the same active visits if it changes these
pub record Agree (model : Model) (mv : Move) (lists other : List (List ℕ)) : Type 0 where
  pub many : length lists ≡ length other
  pub source : (v : ℕ) → IsSource model lists mv v → route lists v ≡ route other v
  pub second : route lists (second_of mv) ≡ route other (second_of mv)
  pub active : IsTrue (changes_activity (kind_of mv)) → is_active lists ≡ is_active other

-- a move is not one of those that a move made before it has changed. Its vehicles are not the two of that move. If it
-- changes activity, that move did not
pub record IsApart (model : Model) (lists : List (List ℕ)) (made : Move) (first second : ℕ) (mv : Move) : Type 0 where
  pub source : (v : ℕ) → IsSource model lists mv v → (v ≢ first) × (v ≢ second)
  pub target : (second_of mv ≢ first) × (second_of mv ≢ second)
  pub active : IsTrue (changes_activity (kind_of mv)) → changes_activity (kind_of made) ≡ false
