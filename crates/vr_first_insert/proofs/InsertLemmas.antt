-- The best insertion, place by place.
use Rattle.std.proofs.Common.{◌≡◌, ◌∙◌, ◌≤◌, ◌+◌, ◌-◌, ◌++◌, ℕ, zero, suc, List, [], ◌∷◌, Option, ap, arith, length}
use Rattle.std.specs.Prelude.{map, fold}
use Rattle.std.specs.List.{range_with_len}
use Rattle.std.proofs.lemmas.List.{map-append}
use Rattle.std.proofs.lemmas.List.Sums.{fold-append}
use Rattle.std.proofs.lemmas.Grind.{flat_map-append}
use Rattle.std.proofs.lemmas.List.{append-nil}
use Rattle.vr_model.specs.routes.Routes.{route}
use Rattle.vr_rules.specs.declared.items.Candidate.{Candidate}
use Rattle.vr_model.specs.declared.records.Model.{Model}
use Rattle.vr_model.specs.tables.Numbers.{below, from_to, each}
use Rattle.vr_model.proofs.tables.Ranges.{below-more}
use Rattle.vr_first_insert.specs.declared.choice.InsertionChoice.{InsertionChoice}
use Rattle.vr_first_insert.specs.Placings.{best_in, best_in_lists, pair_choice}

-- the choices of a pair with its pickup before place s
abbrev pub deliveries : Model → ℕ → List ℕ → ℕ → ℕ → ℕ → ℕ → List InsertionChoice
deliveries model v list class pickup delivery s = map (pair_choice model v list class pickup delivery s) (from_to s (suc (length list)))

range-more : (a n : ℕ) → range_with_len a (suc n) ≡ range_with_len a n ++ (a + n) ∷ []
range-more a zero = ap (λ k. k ∷ []) (omega arith)
range-more a (suc n) = ap (λ ks. a ∷ ks) (range-more (a + 1) n ∙ ap (λ k. range_with_len (a + 1) n ++ k ∷ []) (omega arith))

pub from_to-more : (a b : ℕ) → a ≤ b → from_to a (b + 1) ≡ from_to a b ++ b ∷ []
from_to-more a b h =
    let e : (b + 1) - a ≡ suc (b - a) = omega arith in
    let f : a + (b - a) ≡ b = omega arith in
    ap (range_with_len a) e ∙ range-more a (b - a) ∙ ap (λ k. range_with_len a (b - a) ++ k ∷ []) f

module _ {S : Type 0} (step : S → InsertionChoice → S) (begin : S) where
  -- one choice more
  pub fold-one : (f : ℕ → InsertionChoice) (ks : List ℕ) (k : ℕ) → fold step begin (map f (ks ++ k ∷ [])) ≡ step (fold step begin (map f ks)) (f k)
  fold-one f ks k = ap (fold step begin) (map-append f ks (k ∷ [])) ∙ fold-append step begin (map f ks) (f k ∷ [])

  -- the choices of one number more
  pub fold-each : (f : ℕ → List InsertionChoice) (ks : List ℕ) (k : ℕ) → fold step begin (each (ks ++ k ∷ []) f) ≡ fold step (fold step begin (each ks f)) (f k)
  fold-each f ks k =
      ap (fold step begin) (flat_map-append f ks (k ∷ []) ∙ ap (λ ys. each ks f ++ ys) (append-nil (f k))) ∙ fold-append step begin (each ks f) (f k)

-- one list more
pub best_in_lists-more : (model : Model) (lists : List (List ℕ)) (candidate : Candidate) (v : ℕ) (best : Option InsertionChoice)
    → best_in_lists model lists candidate (v + 1) best ≡ best_in model v (route lists v) candidate (best_in_lists model lists candidate v best)
best_in_lists-more model lists candidate v best =
    let step = λ (best : Option InsertionChoice) (v : ℕ). best_in model v (route lists v) candidate best in
    ap (fold step best) (below-more v) ∙ fold-append step best (below v) (v ∷ [])
