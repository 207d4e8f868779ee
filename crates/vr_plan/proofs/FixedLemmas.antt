-- The line whose stops allow given cumuls alone.
use Rattle.std.proofs.Common.{◌≡◌, ℕ, zero, suc, ◌<◌, false, Bool, ◌&&◌, List, [], ◌∷◌, ◌++◌, length, get_or, ℤ, pos, inl, inr, refl, sym, subst, ap, ◌∙◌}
use Rattle.std.proofs.Common.{arith}
use Rattle.std.specs.Prelude.{IsTrue}
use Rattle.std.specs.List.{AllZip}
use Rattle.std.proofs.lemmas.Bool.{cases_lt}
use Rattle.std.proofs.lemmas.List.{get_or_append_left, length-append, ext_get_or}
use Rattle.vr_spans.specs.declared.runs.Run.{Run}
use Rattle.vr_model.specs.tables.Numbers.{number_at, is_same_number, within, horizon}
use Rattle.vr_model.specs.deciding.Testing.{and_left, and_right, and_both, tests_of_eq, eq_of_tests}
use Rattle.vr_model.specs.schedules.Lines.{Line as Defined}
use Rattle.vr_model.specs.schedules.Schedules.{Plan, IsSchedule, allows, both_sides, cumul}
use Rattle.vr_steps.specs.declared.lines.Line.{Line}
use Rattle.vr_steps.specs.Levels.{HasNumbers}
use Rattle.vr_steps.specs.Lines.{IsLineOf}
use Rattle.vr_steps.proofs.ReachLemmas.{other_stops}
use Rattle.vr_plan.specs.Settled.{IsOnly}
use Rattle.vr_plan.specs.Narrow.{AreOnly, fixed_allowed, fixed}

set_last : (xs : List (List Run)) (x : List Run) (i : ℕ) → length xs ≡ i → get_or (xs ++ x ∷ []) i [] ≡ x
set_last [] x zero e = refl
set_last [] x (suc i) e = absurd (omega (arith, e))
set_last (c ∷ cs) x zero e = absurd (omega (arith, e))
set_last (c ∷ cs) x (suc i) e = set_last cs x i (omega (arith, e))

-- one set more
pub only_more : (allowed : List (List Run)) (cumuls : List ℤ) (sets : List (List Run)) (k : ℕ) (set only : List Run)
    → length sets ≡ k → ((j : ℕ) → j < length sets → IsOnly (get_or allowed j []) (number_at cumuls j) (get_or sets j []))
    → get_or allowed k [] ≡ set → IsOnly set (number_at cumuls k) only → (j : ℕ) → j < length (sets ++ only ∷ [])
    → IsOnly (get_or allowed j []) (number_at cumuls j) (get_or (sets ++ only ∷ []) j [])
only_more allowed cumuls sets k set only long before is new j lt =
    let n = length-append sets (only ∷ []) in
    elim (cases_lt j k) [
      | inl earlier ↦ subst (IsOnly (get_or allowed j []) (number_at cumuls j))
          (sym (get_or_append_left sets (only ∷ []) [] j (omega (arith, earlier, long)))) (before j (omega (arith, earlier, long)))
      | inr at ↦ (let e : k ≡ j = omega (arith, lt, n, long, at) in
          subst (λ i. IsOnly (get_or allowed i []) (number_at cumuls i) (get_or (sets ++ only ∷ []) i [])) e
          (subst (IsOnly (get_or allowed k []) (number_at cumuls k)) (sym (set_last sets only k long))
          (subst (λ s. IsOnly s (number_at cumuls k) only) (sym is) new)))
    ]

length_fixed : (tests : List (ℤ → Bool)) (cumuls : List ℤ) → length (fixed_allowed tests cumuls) ≡ length tests
length_fixed [] cumuls = refl
length_fixed (t ∷ ts) [] = refl
length_fixed (t ∷ ts) (x ∷ cs) = ap suc (length_fixed ts cs)

fixed_at : (tests : List (ℤ → Bool)) (cumuls : List ℤ) (k : ℕ) (y : ℤ) → length cumuls ≡ length tests → k < length tests
    → get_or (fixed_allowed tests cumuls) k (λ _. false) y ≡ (get_or tests k (λ _. false) y && is_same_number (number_at cumuls k) y)
fixed_at [] cumuls k y e lt = absurd (omega (arith, lt))
fixed_at (t ∷ ts) [] k y e lt = absurd (omega (arith, e))
fixed_at (t ∷ ts) (x ∷ cs) zero y e lt = refl
fixed_at (t ∷ ts) (x ∷ cs) (suc k) y e lt = fixed_at ts cs k y (omega (arith, e)) (omega (arith, lt))

zip_fixed : (tests : List (ℤ → Bool)) (allowed : List (List Run)) (cumuls : List ℤ) (sets : List (List Run))
    → AllZip HasNumbers tests allowed → length cumuls ≡ length allowed → length sets ≡ length allowed
    → ((k : ℕ) → k < length sets → IsOnly (get_or allowed k []) (number_at cumuls k) (get_or sets k [])) → AllZip HasNumbers (fixed_allowed tests cumuls) sets
zip_fixed [] [] cumuls [] zip a b each = tt
zip_fixed [] [] cumuls (s ∷ ss) zip a b each = absurd (omega (arith, b))
zip_fixed [] (x ∷ xs) cumuls sets zip a b each = absurd zip
zip_fixed (t ∷ ts) [] cumuls sets zip a b each = absurd zip
zip_fixed (t ∷ ts) (x ∷ xs) [] sets zip a b each = absurd (omega (arith, a))
zip_fixed (t ∷ ts) (x ∷ xs) (c ∷ cs) [] zip a b each = absurd (omega (arith, b))
zip_fixed (t ∷ ts) (x ∷ xs) (c ∷ cs) (s ∷ ss) zip a b each = (
  λ y. each 0 (omega arith) y ∙ ap (λ q. q && is_same_number c y) (zip.0 y),
  zip_fixed ts xs cs ss zip.1 (omega (arith, a)) (omega (arith, b)) (λ k lt. each (suc k) (omega (arith, lt))),
)

-- the narrower line in code is that of the narrower line of the definition
pub fixed_line : (defined : Defined) (made narrow : Line) (cumuls : List ℤ) → IsLineOf defined made → length cumuls ≡ length made.allowed
    → AreOnly made.allowed cumuls narrow.allowed → narrow.hops ≡ made.hops → narrow.breaks ≡ made.breaks → IsLineOf (fixed defined cumuls) narrow
fixed_line defined made narrow cumuls of long only hops breaks = record {
  allowed = zip_fixed defined.allowed made.allowed cumuls narrow.allowed of.allowed long only.one_of_each only.each;
  hops = hops ∙ of.hops;
  breaks = breaks ∙ of.breaks;
}

module _ (line : Defined) (cumuls : List ℤ) (long : length cumuls ≡ length line.allowed) (plan : Plan) where
  -- a schedule with these cumuls is one of the narrower line
  pub to_fixed : IsSchedule line plan → plan.cumuls ≡ cumuls → IsSchedule (fixed line cumuls) plan
  to_fixed s e = other_stops both_sides line (fixed_allowed line.allowed cumuls) plan s
      (s.cumul_of_each_stop ∙ sym (length_fixed line.allowed cumuls)) (λ k lt. let n = length_fixed line.allowed cumuls in there k (omega (arith, lt, n)))
    where
      there : (k : ℕ) → k < length line.allowed → IsTrue (allows (fixed line cumuls) k (cumul plan k))
      there k lt =
          let is = s.cumuls_allowed k lt in
          let same : number_at cumuls k ≡ cumul plan k = ap (λ cs. number_at cs k) (sym e) in
          and_both (within (pos 0) horizon (cumul plan k)) _ (and_left (within (pos 0) horizon (cumul plan k)) _ is)
          (fixed_at line.allowed cumuls k (cumul plan k) long lt ∙ and_both (get_or line.allowed k (λ _. false) (cumul plan k))
          _ (and_right (within (pos 0) horizon (cumul plan k)) _ is) (tests_of_eq (number_at cumuls k) (cumul plan k) same))

  -- and the other way round
  pub of_fixed : IsSchedule (fixed line cumuls) plan → IsSchedule line plan × (plan.cumuls ≡ cumuls)
  of_fixed s = (
    other_stops both_sides (fixed line cumuls) line.allowed plan s number
        (λ k lt. and_both (within (pos 0) horizon (cumul plan k)) _ (and_left (within (pos 0) horizon (cumul plan k)) _ (here k lt))
        (and_left (get_or line.allowed k (λ _. false) (cumul plan k)) _ (parts k lt))),
    ext_get_or (pos 0) plan.cumuls cumuls (number ∙ sym long) (λ k lt. sym (eq_of_tests (number_at cumuls k) (cumul plan k)
        (and_right (get_or line.allowed k (λ _. false) (cumul plan k)) _ (parts k (omega (arith, lt, number)))))),
  )
    where
      number : length plan.cumuls ≡ length line.allowed
      number = s.cumul_of_each_stop ∙ length_fixed line.allowed cumuls

      here : (k : ℕ) → k < length line.allowed → IsTrue (allows (fixed line cumuls) k (cumul plan k))
      here k lt = let n = length_fixed line.allowed cumuls in s.cumuls_allowed k (omega (arith, lt, n))

      parts : (k : ℕ) → k < length line.allowed
          → IsTrue (get_or line.allowed k (λ _. false) (cumul plan k) && is_same_number (number_at cumuls k) (cumul plan k))
      parts k lt = sym (fixed_at line.allowed cumuls k (cumul plan k) long lt) ∙ and_right (within (pos 0) horizon (cumul plan k)) _ (here k lt)
