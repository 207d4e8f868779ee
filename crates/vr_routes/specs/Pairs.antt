-- Two nodes of lists.
use Rattle.std.specs.Prelude.{◌≡◌, ℕ, suc, ◌<◌, Bool, not, ◌==◌, ◌+◌, ◌-◌, ◌&&◌}
use Rattle.std.specs.Prelude.{List, ◌++◌, length, map, take, drop, slice_range}
use Rattle.std.specs.List.{list_any}
use Rattle.vr_model.specs.routes.Routes.{route, holds}
use Rattle.vr_model.specs.moves.Moves.{with_route, without_pair, comes_before}
use Rattle.vr_model.specs.declared.records.Pair.{Pair}
use Rattle.vr_routes.specs.Seats.{IsSeat}

-- both nodes are in one list
abbrev pub are_together : List (List ℕ) → ℕ → ℕ → Bool
are_together lists x y = list_any (λ list. holds list x && holds list y) lists

-- both nodes are in one list, and x comes first
abbrev pub are_in_order : List (List ℕ) → ℕ → ℕ → Bool
are_in_order lists x y = list_any (λ list. comes_before list x y) lists

-- the two nodes of a pair are at these places of the list of v
pub record ArePairPlaces (lists : List (List ℕ)) (pair : Pair) (v k j : ℕ) : Type 0 where
  pub pickup_stands : IsSeat lists pair.pickup v k
  pub delivery_stands : IsSeat lists pair.delivery v j

-- a list without the nodes at two places, of which lo comes first
abbrev pub without_two : List ℕ → ℕ → ℕ → List ℕ
without_two list lo hi = take lo list ++ (slice_range list (suc lo) hi ++ drop (suc hi) list)

-- the nodes of a pair are at two places of the list of v, of which lo comes first, and nowhere else
pub record IsGap (lists : List (List ℕ)) (pair : Pair) (v lo hi : ℕ) : Type 0 where
  pub vehicle : v < length lists
  pub order : lo < hi
  pub place : hi < length (route lists v)
  pub list_without : without_pair pair (route lists v) ≡ without_two (route lists v) lo hi
  pub lists_without : map (without_pair pair) lists ≡ with_route lists v (without_two (route lists v) lo hi)

-- 1 if j is past a place, else 0
abbrev pub is_past : ℕ → ℕ → ℕ
is_past place j = 1 - (1 - (j - place))

-- how many of the two places of a rest at which nodes were taken out lie before place j of it
abbrev pub cuts_before : ℕ → ℕ → ℕ → ℕ
cuts_before lo hi j = is_past lo j + is_past (hi - 1) j

-- a pair that is at places lo and hi of v is put elsewhere
abbrev pub is_elsewhere : ℕ → ℕ → ℕ → ℕ → ℕ → ℕ → Bool
is_elsewhere v lo hi w s t = not ((w == v) && ((s == lo) && (t == (hi - 1))))
