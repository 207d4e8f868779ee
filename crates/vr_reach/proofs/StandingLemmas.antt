-- What is reached at a stop of a list, in other lists too.
use Rattle.std.proofs.Common.{◌≡◌, ℕ, zero, suc, ◌+◌, ◌<◌, ◌≤◌, true, false, List, [], ◌∷◌, length, take, ℤ, refl, ap, ap₂, sym, ◌∙◌, arith}
use Rattle.std.specs.Prelude.{IsTrue, ◌&&◌}
use Rattle.std.specs.List.{list_all}
use Rattle.std.proofs.lemmas.Bool.{false≢true}
use Rattle.std.proofs.lemmas.List.{take_all}
use Rattle.std.proofs.lemmas.List.Folds.{list_all_more}
use Rattle.vr_spans.specs.declared.runs.Run.{Run}
use Rattle.vr_spans.specs.Runs.{has}
use Rattle.vr_model.specs.deciding.Testing.{and_left, and_right}
use Rattle.vr_model.specs.routes.Routes.{is_empty}
use Rattle.vr_model.specs.schedules.Lines.{line}
use Rattle.vr_model.specs.schedules.Levels.{FeasibleWhereLevelsMeet}
use Rattle.vr_model.specs.schedules.Choices.{is_feasible}
use Rattle.vr_model.specs.schedules.ChosenLaws.{ChosenWhereFeasible}
use Rattle.vr_model.specs.schedules.SoundLines.{LinesAreSound}
use Rattle.vr_model.specs.declared.records.Model.{Model}
use Rattle.vr_model.proofs.tables.Tests.{all-from_list_all, clash, fails}
use Rattle.vr_model.proofs.schedules.LineArcs.{arcs_of_line}
use Rattle.vr_steps.specs.Levels.{level_at}
use Rattle.vr_reach.specs.Standing.{is_stuck, IsReachedAt, ReachesNoEnd}
use Rattle.vr_reach.specs.Stretches.{SharesFront}
use Rattle.vr_reach.proofs.LineParts.{sound_line}
use Rattle.vr_reach.proofs.Transfer.{reached_too}

-- a list that shares the nodes up to a stop reaches the same there
pub reached_in : (model : Model) (d v : ℕ) (old new : List ℕ) (k : ℕ) (levels : List (List Run))
    → SharesFront old new k → IsReachedAt model d v old k levels → IsReachedAt model d v new k levels
reached_in model d v old new k levels shares is = record { form = is.form; reached = reached_too model d v old new k shares levels is.reached }

-- ---- levels without a number

length_of : (set : List Run) → length set ≡ 0 → is_empty set ≡ true
length_of [] none = refl
length_of (r ∷ rs) none = absurd (omega (arith, none))

filled : (set : List Run) → 0 < length set → is_empty set ≡ false
filled [] some = absurd (omega (arith, some))
filled (r ∷ rs) some = refl

module _ (levels : List (List Run)) (b : ℕ) (set : List Run) (low : b < length levels) (is : level_at levels b ≡ set) where
  -- one level more has none
  pub stuck_more : length set ≡ 0 → list_all is_empty (take b levels) ≡ true → list_all is_empty (take (b + 1) levels) ≡ true
  stuck_more none before = list_all_more is_empty levels b [] low ∙ ap₂ (λ x y. x && y) before (ap is_empty is ∙ length_of set none)

  -- one level has some
  pub stuck_stops : 0 < length set → is_stuck levels ≡ false
  stuck_stops some =
      fails (is_stuck levels) (λ all. clash (is_empty set) (ap is_empty (sym is) ∙ all-from_list_all is_empty levels all b [] low) (filled set some))

-- no level has
pub stuck_ends : (levels : List (List Run)) (b : ℕ) → length levels ≤ b → list_all is_empty (take b levels) ≡ true → is_stuck levels ≡ true
stuck_ends levels b high all = sym (ap (list_all is_empty) (take_all b levels high)) ∙ all

-- then no number is in any
none_in : (levels : List (List Run)) → is_stuck levels ≡ true → (b : ℕ) (x : ℤ) → IsTrue (has (level_at levels b) x) → ⊥
none_in [] stuck b x there = false≢true there
none_in (set ∷ sets) stuck zero x there = by set (and_left _ _ stuck) there
  where
    by : (s : List Run) → is_empty s ≡ true → IsTrue (has s x) → ⊥
    by [] none inside = false≢true inside
    by (r ∷ rs) none inside = false≢true none
none_in (set ∷ sets) stuck (suc b) x there = none_in sets (and_right (is_empty set) _ stuck) b x there

-- and the end is not reached
pub none_ends : LinesAreSound → ChosenWhereFeasible → FeasibleWhereLevelsMeet → (levels : List (List Run)) → is_stuck levels ≡ true → ReachesNoEnd levels
none_ends sound chosen meet levels stuck model d v list k well d_low v_low used within at =
    let L = line model d v list in
    let n = arcs_of_line model d v list in
    fails (is_feasible L) (λ t.
    let m = (meet L (sound_line sound model well d v d_low v_low list used) k (omega (arith, n, within))).0 ((chosen L).0 t) in
    none_in levels stuck m.0 m.2 ((at.reached m.0 m.1 m.2).1 m.3))
