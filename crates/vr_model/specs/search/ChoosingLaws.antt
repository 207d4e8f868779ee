-- What the choice of a least entry and the scan of a list of moves mean, as statements.
use Rattle.std.specs.Prelude.{◌≡◌, ℕ, suc, ◌<◌, ◌≤◌, ◌⊎◌, ◌-◌, Bool, true, false, List, [], length, ℤ, slice_index_or}
use Rattle.std.specs.Prelude.{MatchOption}
use Rattle.std.specs.List.{All}
use Rattle.vr_model.specs.tables.Numbers.{is_lex_less}
use Rattle.vr_model.specs.first.Choosing.{least_by}
use Rattle.vr_model.specs.search.Scans.{Scan, scan}
use Rattle.vr_model.specs.search.Scans.Scan.{Accepted, Complete, Cut}
use Rattle.vr_model.specs.declared.neighbours.Move.{Move}

-- the entry is in the list, no entry has a lesser key, and each entry before it has a greater one
pub record IsFirstLeast {A : Type 0} (key : A → List ℤ) (xs : List A) (best : A) : Type 0 where
  pub place : ℕ
  pub in_list : place < length xs
  pub stands_there : (d : A) → slice_index_or xs place d ≡ best
  pub least : All (λ y. is_lex_less (key y) (key best) ≡ false) xs
  pub first : (k : ℕ) (d : A) → k < place → is_lex_less (key best) (key (slice_index_or xs k d)) ≡ true

-- the choice is the first entry of the least key, and there is none exactly in the empty list
abbrev pub LeastIsFirst : Type 0 → Type 0
LeastIsFirst A = (key : A → List ℤ) (xs : List A) → MatchOption (least_by key xs) (xs ≡ []) (IsFirstLeast key xs)

-- the first acceptable move of a list is at place k, from 1
pub record IsFirstAcceptable (ms : List Move) (acceptable : Move → Bool) (k : ℕ) (mv : Move) : Type 0 where
  pub from_one : 1 ≤ k
  pub in_list : k ≤ length ms
  pub stands_there : (d : Move) → slice_index_or ms (k - 1) d ≡ mv
  pub acceptable_there : acceptable mv ≡ true
  pub none_before : (i : ℕ) (d : Move) → suc i < k → acceptable (slice_index_or ms i d) ≡ false

-- no move of a list is acceptable
abbrev pub NoneAcceptable : List Move → (Move → Bool) → Type 0
NoneAcceptable ms acceptable = All (λ mv. acceptable mv ≡ false) ms

-- A scan that may try `rest` moves accepts the first acceptable move, if its place is at most `rest`. It is complete if
-- no move is acceptable and there are at most `rest`. Else it is cut.
abbrev pub EndsAs : List Move → (Move → Bool) → ℕ → Scan → Type 0
EndsAs ms acceptable rest (Accepted k mv) = IsFirstAcceptable ms acceptable k mv × (k ≤ rest)
EndsAs ms acceptable rest (Complete n) = NoneAcceptable ms acceptable × (n ≡ length ms) × (n ≤ rest)
EndsAs ms acceptable rest Cut =
    ((k : ℕ) × (mv : Move) × IsFirstAcceptable ms acceptable k mv × (rest < k))
    ⊎ (NoneAcceptable ms acceptable × (rest < length ms))

-- each scan ends as `EndsAs` says
abbrev pub ScanEnds : Type 0
ScanEnds = (ms : List Move) (acceptable : Move → Bool) (rest : ℕ) → EndsAs ms acceptable rest (scan ms acceptable rest)
