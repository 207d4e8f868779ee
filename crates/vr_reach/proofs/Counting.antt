-- What a walk counts is what the definitions count.
use Rattle.std.proofs.Common.{◌≡◌, ℕ, suc, ◌+◌, ◌-◌, ◌*◌, ◌<◌, ◌≤◌, Bool, List, [], ◌∷◌, length, sum_by, All, ℤ, refl, sym, ap, ap₂, subst, ◌∙◌, arith}
use Rattle.std.specs.Prelude.{IsTrue, ◌↔◌}
use Rattle.std.specs.List.{range_with_len}
use Rattle.std.proofs.lemmas.List.Sums.{sum_by-cons}
use Rattle.vr_spans.specs.declared.runs.Run.{Run}
use Rattle.vr_spans.specs.Runs.{has, IsNormal}
use Rattle.vr_model.specs.tables.Numbers.{below}
use Rattle.vr_model.specs.schedules.Lines.{Line}
use Rattle.vr_model.specs.declared.records.BreakRow.{BreakRow}
use Rattle.vr_model.specs.schedules.Choices.{is_reached, reaches_end}
use Rattle.vr_model.specs.schedules.ChosenLaws.{ReachedAsTested, EndReachedAsTested}
use Rattle.vr_model.specs.schedules.Weights.{runs, over_breaks, walk_weight}
use Rattle.vr_steps.specs.Levels.{IsCumuls, AreLevels, level_at, forward_steps}
use Rattle.vr_steps.specs.Reached.{RunsAreCounted, AreReached, AreReachingEnd}
use Rattle.vr_reach.specs.Walks.{runs_in}
use Rattle.vr_reach.specs.Counts.{arc_steps, steps_between, join_steps}
use Rattle.vr_reach.proofs.LineParts.{same_tests}

-- a sum over levels is one over the numbers of breaks
module _ (total : List (List Run) → ℕ) (part : List Run → ℕ → ℕ) (none : total [] ≡ 0)
    (more : (set : List Run) (sets : List (List Run)) → total (set ∷ sets) ≡ part set (length sets) + total sets) (of : ℕ → ℕ) where
  over_range : (a : ℕ) (levels : List (List Run)) → ((j : ℕ) → j < length levels → of (a + j) ≡ part (level_at levels j) (length levels - suc j))
      → total levels ≡ sum_by of (range_with_len a (length levels))
  over_range a [] each = none
  over_range a (set ∷ sets) each =
      let first : of a ≡ part set (length sets) = (let e : a + 0 ≡ a = omega arith in
      let n : suc (length sets) - 1 ≡ length sets = omega arith in ap of (sym e) ∙ (each 0 (omega arith) ∙ ap (part set) n)) in
      let rest = over_range (a + 1) sets
      (λ j low. let e : a + 1 + j ≡ a + suc j = omega arith in let n : suc (length sets) - suc (suc j) ≡ length sets - suc j = omega arith in
      ap of e ∙ (each (suc j) (omega (arith, low)) ∙ ap (part (level_at sets j)) n)) in
      more set sets ∙ (ap₂ (λ m n. m + n) (sym first) rest ∙ sym (sum_by-cons of a (range_with_len (a + 1) (length sets))))

  over_all : (levels : List (List Run)) → ((j : ℕ) → j < length levels → of j ≡ part (level_at levels j) (length levels - suc j))
      → total levels ≡ sum_by of (range_with_len 0 (length levels))
  over_all levels each = over_range 0 levels (λ j low. let e : 0 + j ≡ j = omega arith in ap of e ∙ each j low)

sum_of_both : (f g : ℕ → ℕ) (xs : List ℕ) → sum_by (λ b. f b + g b) xs ≡ sum_by f xs + sum_by g xs
sum_of_both f g [] = refl
sum_of_both f g (x ∷ xs) =
    let e = sum_of_both f g xs in
    let i = sum_by-cons (λ b. f b + g b) x xs in
    let j = sum_by-cons f x xs in
    let k = sum_by-cons g x xs in
    by (f x) (g x) (sum_by f xs) (sum_by g xs) i j k e
  where
    by : (a b m n : ℕ) {whole rest left right : ℕ} → whole ≡ (a + b) + rest → left ≡ a + m → right ≡ b + n → rest ≡ m + n → whole ≡ left + right
    by a b m n i j k e = omega (arith, i, j, k, e)

module _ (counted : RunsAreCounted) where
  pub runs_of : (test : ℤ → Bool) (set : List Run) → IsNormal set → IsCumuls set → ((x : ℤ) → IsTrue (has set x) ↔ IsTrue (test x)) → runs test ≡ length set
  runs_of test set normal cumuls is =
      let same : has set ≡ test = λ i x. same_tests (has set x) (test x) (is x).0 (is x).1 i in
      ap runs (sym same) ∙ counted set normal cumuls

  module _ (line : Line) (k : ℕ) (levels : List (List Run)) (form : AreLevels line.breaks levels) (normal : All IsNormal levels) where
    runs_reached : ReachedAsTested → AreReached line k levels → (b : ℕ) → b < length levels → runs (is_reached line k b) ≡ length (level_at levels b)
    runs_reached tested are b low =
        let le : b ≤ length line.breaks = (let n = form.one_more in omega (arith, n, low)) in
        runs_of (is_reached line k b) (level_at levels b) (normal b [] low) (form.cumuls b [] low)
        (λ x. (λ t. (tested line k b x).1 ((are b le x).0 t), λ t. (are b le x).1 ((tested line k b x).0 t)))

    runs_reaching : EndReachedAsTested → AreReachingEnd line k levels → (b : ℕ) → b < length levels → runs (reaches_end line k b) ≡ length (level_at levels b)
    runs_reaching tested are b low =
        let le : b ≤ length line.breaks = (let n = form.one_more in omega (arith, n, low)) in
        runs_of (reaches_end line k b) (level_at levels b) (normal b [] low) (form.cumuls b [] low)
        (λ x. (λ t. (tested line k b x).1 ((are b le x).0 t), λ t. (are b le x).1 ((tested line k b x).0 t)))

    -- the steps of crossing an arc
    pub steps_of_arc : ReachedAsTested → AreReached line k levels
        → forward_steps levels ≡ over_breaks line (λ b. runs (is_reached line k b) * (length line.breaks - b + 1))
    steps_of_arc tested are =
        let f : ℕ → ℕ = λ b. runs (is_reached line k b) * (length line.breaks - b + 1) in
        over_all forward_steps (λ set m. length set * suc m) refl (λ set sets. refl) f levels
        (λ j low. ap₂ (λ m n. m * n) (runs_reached tested are j low) (let n = form.one_more in omega (arith, n, low)))
        ∙ ap (λ n. sum_by f (range_with_len 0 n)) form.one_more

    -- the runs that are reached, and those from which the end is
    pub steps_ahead : ReachedAsTested → AreReached line k levels → runs_in levels ≡ over_breaks line (λ b. runs (is_reached line k b))
    steps_ahead tested are =
        over_all runs_in (λ set m. length set) refl (λ set sets. sum_by-cons length set sets)
        (λ b. runs (is_reached line k b)) levels (λ j low. runs_reached tested are j low)
        ∙ ap (λ n. sum_by (λ b. runs (is_reached line k b)) (range_with_len 0 n)) form.one_more

    pub steps_behind : EndReachedAsTested → AreReachingEnd line k levels → runs_in levels ≡ over_breaks line (λ b. runs (reaches_end line k b))
    steps_behind tested are =
        over_all runs_in (λ set m. length set) refl (λ set sets. sum_by-cons length set sets)
        (λ b. runs (reaches_end line k b)) levels (λ j low. runs_reaching tested are j low)
        ∙ ap (λ n. sum_by (λ b. runs (reaches_end line k b)) (range_with_len 0 n)) form.one_more

pub walk_weight_is : (line : Line) (a e : ℕ) → walk_weight line a e ≡ steps_between line a e + join_steps line e
walk_weight_is line a e = refl

pub first_arc : (line : Line) (a e : ℕ) → a < e → steps_between line a e ≡ arc_steps line a + steps_between line (a + 1) e
first_arc line a e low =
    let n : e - a ≡ suc (e - (a + 1)) = omega (arith, low) in
    ap (λ n. sum_by (arc_steps line) (range_with_len a n)) n ∙ sum_by-cons (arc_steps line) a (range_with_len (a + 1) (e - (a + 1)))

pub join_is : (line : Line) (e : ℕ)
    → join_steps line e ≡ over_breaks line (λ b. runs (is_reached line e b)) + over_breaks line (λ b. runs (reaches_end line e b))
join_is line e = sum_of_both (λ b. runs (is_reached line e b)) (λ b. runs (reaches_end line e b)) (below (suc (length line.breaks)))

-- the same, where the breaks are known by another list
pub arc_counts : RunsAreCounted → ReachedAsTested → (line : Line) (k : ℕ) (levels : List (List Run)) (breaks : List BreakRow)
    → breaks ≡ line.breaks → AreLevels breaks levels → All IsNormal levels → AreReached line k levels → forward_steps levels ≡ arc_steps line k
arc_counts counted tested line k levels breaks same form normal are =
    steps_of_arc counted line k levels (subst (λ rows. AreLevels rows levels) same form) normal tested are

pub join_counts : RunsAreCounted → ReachedAsTested → EndReachedAsTested → (line : Line) (k : ℕ) (ahead behind : List (List Run)) (breaks : List BreakRow)
    → breaks ≡ line.breaks → AreLevels breaks ahead → AreLevels breaks behind → All IsNormal ahead → All IsNormal behind
    → AreReached line k ahead → AreReachingEnd line k behind → runs_in ahead + runs_in behind ≡ join_steps line k
join_counts counted tested tested_too line k ahead behind breaks same form form_too normal normal_too are are_too =
    ap₂ (λ m n. m + n) (steps_ahead counted line k ahead (subst (λ rows. AreLevels rows ahead) same form) normal tested are)
    (steps_behind counted line k behind (subst (λ rows. AreLevels rows behind) same form_too) normal_too tested_too are_too)
    ∙ sym (join_is line k)

-- what was counted and what is left, one arc further
pub one_further : (start total here rest now : ℕ) {new left forward : ℕ} → now + left ≤ start + total
    → left ≡ here + rest → forward ≡ here → new ≤ now + forward → new + rest ≤ start + total
one_further start total here rest now a b c d = omega (arith, a, b, c, d)

pub within_whole : (start total rest join : ℕ) {new : ℕ} → new + rest ≤ start + total → new ≤ start + (total + join)
within_whole start total rest join a = omega (arith, a)

pub with_join : (start total left join now : ℕ) {new both : ℕ} → now + left ≤ start + total → new ≡ now + both → both ≡ join → new ≤ start + (total + join)
with_join start total left join now a b c = omega (arith, a, b, c)
