-- What is kept of a list place by place, whatever it is.
use Rattle.std.specs.Prelude.{◌≡◌, ◌≤◌, ◌-◌, ℕ, suc, List, [], ◌∷◌, drop, fold, length, slice_index_or, take}
use Rattle.vr_earliest.specs.declared.kept_ways.KeptWays.{KeptWays}

-- entry k is f k, for each number k up to n
pub record AreEntries {A : Type 0} (f : ℕ → A) (n : ℕ) (entries : List A) : Type 0 where
  pub many : length entries ≡ suc n
  pub each : (k : ℕ) (other : A) → k ≤ n → slice_index_or entries k other ≡ f k

-- what steps backwards make of the end, from the last of some nodes to the first
abbrev pub back_from : {R : Type 0} → R → (ℕ → R → R) → List ℕ → R
back_from end before [] = end
back_from end before (x ∷ xs) = before x (back_from end before xs)

-- what steps forwards make of the start along the first nodes of a list, for each number of them up to n
abbrev pub AreWaysTo : {W : Type 0} → W → (W → ℕ → W) → List ℕ → ℕ → List W → Type 0
AreWaysTo start on list n ways = AreEntries (λ k. fold on start (take k list)) n ways

-- what steps backwards make of the end along the last nodes of a list, for each number of them up to n
abbrev pub AreRestsTo : {R : Type 0} → R → (ℕ → R → R) → List ℕ → ℕ → List R → Type 0
AreRestsTo end before list n rests = AreEntries (λ k. back_from end before (drop (length list - k) list)) n rests

-- what is kept of a list has both, for each number of its nodes
pub record KeepsWays {W R : Type 0} (start : W) (on : W → ℕ → W) (end : R) (before : ℕ → R → R) (list : List ℕ)
    (kept : KeptWays W R) : Type 0 where
  pub few : length list ≤ 1000
  pub ways : AreWaysTo start on list (length list) kept.ways.items
  pub rests : AreRestsTo end before list (length list) kept.rests.items
