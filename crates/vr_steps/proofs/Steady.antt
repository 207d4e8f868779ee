-- Lines along which each arc takes five and nothing else is asked: what is reached, and what a walk of three arcs weighs.
use Rattle.std.proofs.Common.{◌≡◌, ◌∙◌, ℕ, zero, suc, ◌+◌, ◌-◌, ◌*◌, ◌<◌, ◌≤◌, Bool, true, false, [], ◌∷◌, length, ℤ, pos, refl, sym, ap, ap₂, subst, arith}
use Rattle.std.specs.Prelude.{IsTrue, ◌↔◌, ◌+ℤ◌, ◌-ℤ◌, ◌≤ℤ◌, sum_by}
use Rattle.std.specs.Prelude.{◌||◌}
use Rattle.std.specs.List.{range_with_len}
use Rattle.std.proofs.lemmas.Int.{ints}
use Rattle.vr_spans.specs.declared.runs.Run.{Run}
use Rattle.vr_spans.specs.Runs.{has, IsNormal}
use Rattle.vr_model.specs.tables.Numbers.{below, from_to, horizon, within}
use Rattle.vr_model.specs.schedules.Lines.{Line}
use Rattle.vr_model.specs.schedules.Schedules.{allows, arc_at, IsFeasible, IsReached, ReachesEnd}
use Rattle.vr_model.specs.schedules.SoundLines.{IsSound}
use Rattle.vr_model.specs.schedules.Levels.{Crosses, FeasibleWhereLevelsMeet, ReachedAtStart, ReachedByCrossing, ReachedAtEnd, EndReachedByCrossing, AreStarts}
use Rattle.vr_model.specs.schedules.Levels.{FitBefore, FitAfter}
use Rattle.vr_model.specs.schedules.ChosenLaws.{ReachedAsTested, EndReachedAsTested}
use Rattle.vr_model.specs.schedules.Choices.{is_reached, reaches_end}
use Rattle.vr_model.specs.schedules.Weights.{runs, over_breaks, walk_weight}
use Rattle.vr_model.specs.deciding.Testing.{or_left, test_of_within, within_is}
use Rattle.vr_model.proofs.tables.Tests.{same_tests}
use Rattle.vr_steps.specs.Arcs.{Leads}
use Rattle.vr_steps.specs.Levels.{IsCumuls}
use Rattle.vr_steps.specs.Reached.{ArcAlone, RunsAreCounted, hop_at}
use Rattle.vr_steps.proofs.ArcLemmas.{plainly, leads}

-- each arc takes five, no slack, no breaks, a fixed start, and stops that allow all cumuls
pub record IsSteady (line : Line) : Type 0 where
  pub sound : IsSound line
  pub few : length line.arcs ≤ 2000
  pub transits : (k : ℕ) → k < length line.arcs → (arc_at line k).transit ≡ pos 5
  pub tight : line.slack_max ≡ pos 0
  pub no_breaks : line.breaks ≡ []
  pub start : (x : ℤ) → IsTrue (allows line 0 x) ↔ (x ≡ pos 0)
  pub others : (k : ℕ) → 0 < k → k ≤ length line.arcs → (x : ℤ) → IsTrue (allows line k x) ↔ IsTrue (within (pos 0) horizon x)

no_starts : AreStarts [] []
no_starts = record { one_of_each = refl; in_range = λ k lt. absurd (omega arith); in_order = λ k lt. absurd (omega arith) }

none_before : (x : ℤ) → FitBefore [] x
none_before x = ([], no_starts, λ k lt. absurd (omega arith))

none_after : (x : ℤ) → FitAfter [] x
none_after x = ([], no_starts, λ k lt. absurd (omega arith))

module _ (line : Line) (steady : IsSteady line) where
  -- an arc leads five on
  goes : (k : ℕ) → k < length line.arcs → (y x : ℤ) → Leads (hop_at line k) [] y x → x ≡ y +ℤ pos 5
  goes k low y x led =
      let plain = plainly (hop_at line k) y x led in
      let t = steady.transits k low in
      let s = steady.tight in
      omega (arith, ints, plain.least, plain.greatest, t, s)

  leads_on : (k : ℕ) → k < length line.arcs → (y x : ℤ) → IsTrue (within (pos 0) horizon y)
      → IsTrue (within (pos 0) horizon x) → x ≡ y +ℤ pos 5 → Leads (hop_at line k) [] y x
  leads_on k low y x from to is =
      let t = steady.transits k low in
      let s = steady.tight in
      leads (hop_at line k) y x (record { begin = from; «end» = to; least = omega (arith, ints, is, t); greatest = omega (arith, ints, is, t, s) })

  cumul_at : ℕ → ℤ
  cumul_at k = pos (5 * k)

  in_range : (k : ℕ) → k ≤ length line.arcs → IsTrue (within (pos 0) horizon (pos (5 * k)))
  in_range k le = let f = steady.few in test_of_within (pos 0) horizon (pos (5 * k)) (omega (arith, ints)) (omega (arith, ints, le, f))

  allowed_there : (k : ℕ) → k ≤ length line.arcs → IsTrue (allows line k (pos (5 * k)))
  allowed_there zero le = (steady.start (pos 0)).1 refl
  allowed_there (suc k) le = (steady.others (suc k) (omega arith) le (pos (5 * suc k))).1 (in_range (suc k) le)

  module _ (at_start : ReachedAtStart) (crossing : ReachedByCrossing) (alone : ArcAlone) where
    reached_on : (k : ℕ) → k < length line.arcs → ((x : ℤ) → IsReached line k 0 x ↔ (x ≡ pos (5 * k)))
        → (x : ℤ) → IsReached line (suc k) 0 x ↔ (x ≡ pos (5 * suc k))
    reached_on k low before x = (to, from)
      where
        to : IsReached line (suc k) 0 x → x ≡ pos (5 * suc k)
        to r = (let s = (crossing line steady.sound k 0 low (omega arith) x).0 r in by s.0 s.1 s.2 s.3 s.4)
          where
            by : (a : ℕ) → a ≤ 0 → (y : ℤ) → IsReached line k a y → Crosses line k a 0 y x → x ≡ pos (5 * suc k)
            by zero few y there crosses =
                let at : y ≡ pos (5 * k) = (before y).0 there in
                let on : x ≡ y +ℤ pos 5 = goes k low y x ((alone line steady.sound k 0 0 low y x).0 crosses).2 in
                omega (arith, ints, at, on)
            by (suc a) few y there crosses = absurd (omega (arith, few))

        from : x ≡ pos (5 * suc k) → IsReached line (suc k) 0 x
        from e = (crossing line steady.sound k 0 low (omega arith) x).1 (
          0,
          omega arith,
          pos (5 * k),
          (before (pos (5 * k))).1 refl,
          (alone line steady.sound k 0 0 low (pos (5 * k)) x).1 (
            allowed_there k (omega (arith, low)),
            subst (λ z. IsTrue (allows line (suc k) z)) (sym e) (allowed_there (suc k) low),
            leads_on k low (pos (5 * k)) x (in_range k (omega (arith, low)))
                (subst (λ z. IsTrue (within (pos 0) horizon z)) (sym e) (in_range (suc k) low)) (omega (arith, ints, e)),
          ),
        )

    -- what is reached at stop k is five times k
    pub reached : (k : ℕ) → k ≤ length line.arcs → (x : ℤ) → IsReached line k 0 x ↔ (x ≡ pos (5 * k))
    reached zero le x =
        let law = at_start line steady.sound 0 (omega arith) x in
        (λ r. (steady.start x).0 (law.0 r).0, λ e. law.1 ((steady.start x).1 e, none_before x))
    reached (suc k) le x = reached_on k le (reached k (omega (arith, le))) x

  module _ (at_end : ReachedAtEnd) (back_over : EndReachedByCrossing) (alone : ArcAlone) where
    -- from stop k the end is reached where the arcs behind it fit below the horizon
    abbrev pub Fits : ℕ → ℤ → Type 0
    Fits j x = (pos 0 ≤ℤ x) × ((x +ℤ pos (5 * j)) ≤ℤ horizon)

    arrived : (k : ℕ) → 0 < k → k ≡ length line.arcs → (x : ℤ) → ReachesEnd line k 0 x ↔ Fits 0 x
    arrived k some is x = (to, from)
      where
        to : ReachesEnd line k 0 x → Fits 0 x
        to r =
            let law = at_end line steady.sound 0 (omega arith) x in
            let there : IsTrue (allows line k x) = subst (λ n. IsTrue (allows line n x)) (sym is) (law.0 (subst (λ n. ReachesEnd line n 0 x) is r)).0 in
            let w = within_is (pos 0) horizon x ((steady.others k some (omega (arith, is)) x).0 there) in
            (w.0, omega (arith, ints, w.1))

        from : Fits 0 x → ReachesEnd line k 0 x
        from f =
            let law = at_end line steady.sound 0 (omega arith) x in
            let there : IsTrue (allows line k x) =
            (steady.others k some (omega (arith, is)) x).1 (test_of_within (pos 0) horizon x f.0 (omega (arith, ints, f.1))) in
            subst (λ n. ReachesEnd line n 0 x) (sym is)
            (law.1 (subst (λ n. IsTrue (allows line n x)) is there, subst (λ rows. FitAfter rows x) (sym steady.no_breaks) (none_after x)))

    back_one : (k j : ℕ) → 0 < k → suc (k + j) ≡ length line.arcs
        → ((x : ℤ) → ReachesEnd line (suc k) 0 x ↔ Fits j x) → (y : ℤ) → ReachesEnd line k 0 y ↔ Fits (suc j) y
    back_one k j some is behind y = (to, from)
      where
        low : k < length line.arcs
        low = omega (arith, is)

        none : length line.breaks ≡ 0
        none = ap length steady.no_breaks

        to : ReachesEnd line k 0 y → Fits (suc j) y
        to r = (let s = (back_over line steady.sound k 0 low (omega arith) y).0 r in by s.0 s.2 s.3 s.4 s.5)
          where
            by : (b : ℕ) → b ≤ length line.breaks → (x : ℤ) → Crosses line k 0 b y x → ReachesEnd line (suc k) b x → Fits (suc j) y
            by zero few x crosses there =
                let over = (alone line steady.sound k 0 0 low y x).0 crosses in
                let on : x ≡ y +ℤ pos 5 = goes k low y x over.2 in
                let f = (behind x).0 there in
                let w = within_is (pos 0) horizon y ((steady.others k some (omega (arith, low)) y).0 over.0) in
                (w.0, omega (arith, ints, on, f.1))
            by (suc b) few x crosses there = absurd (omega (arith, few, none))

        from : Fits (suc j) y → ReachesEnd line k 0 y
        from f =
            let here : IsTrue (within (pos 0) horizon y) = test_of_within (pos 0) horizon y f.0 (omega (arith, ints, f.1)) in
            let next : IsTrue (within (pos 0) horizon (y +ℤ pos 5)) = test_of_within (pos 0)
            horizon (y +ℤ pos 5) (omega (arith, ints, f.0)) (omega (arith, ints, f.1)) in
            (back_over line steady.sound k 0 low (omega arith) y).1 (
              0,
              omega arith,
              omega arith,
              y +ℤ pos 5,
              (alone line steady.sound k 0 0 low y (y +ℤ pos 5)).1 (
                (steady.others k some (omega (arith, low)) y).1 here,
                (steady.others (suc k) (omega arith) low (y +ℤ pos 5)).1 next,
                leads_on k low y (y +ℤ pos 5) here next refl,
              ),
              (behind (y +ℤ pos 5)).1 (omega (arith, ints, f.0), omega (arith, ints, f.1)),
            )

    pub reaching : (j k : ℕ) → 0 < k → k + j ≡ length line.arcs → (x : ℤ) → ReachesEnd line k 0 x ↔ Fits j x
    reaching zero k some is x = arrived k some (omega (arith, is)) x
    reaching (suc j) k some is x = back_one k j some (omega (arith, is)) (reaching j (suc k) (omega arith) (omega (arith, is))) x

or_none : (b : Bool) → IsTrue (b || false) → IsTrue b
or_none true h = refl
or_none false h = h

-- a set that is one run has one
module _ (counted : RunsAreCounted) where
  pub one_run : (test : ℤ → Bool) (lo hi : ℤ) → pos 0 ≤ℤ lo → lo ≤ℤ hi → hi ≤ℤ horizon → ((x : ℤ) → IsTrue (test x) ↔ ((lo ≤ℤ x) × (x ≤ℤ hi))) → runs test ≡ 1
  one_run test lo hi from_zero some below_all is = ap runs (sym same) ∙ counted (run ∷ []) normal cumuls
    where
      run : Run
      run = record { lo = lo; hi = hi }

      ends_of : (x : ℤ) → IsTrue (has (run ∷ []) x) → (lo ≤ℤ x) × (x ≤ℤ hi)
      ends_of x h = within_is lo hi x (or_none (within lo hi x) h)

      same : has (run ∷ []) ≡ test
      same = λ i x. same_tests (has (run ∷ []) x) (test x) (λ h. (is x).1 (ends_of x h))
          (λ t. let w = (is x).0 t in or_left (within lo hi x) false (test_of_within lo hi x w.0 w.1)) i

      normal : IsNormal (run ∷ [])
      normal = (omega (arith, ints, from_zero), some, omega (arith, ints, below_all), tt)

      cumuls : IsCumuls (run ∷ [])
      cumuls x h = let w = ends_of x h in test_of_within (pos 0) horizon x (omega (arith, ints, w.0, from_zero)) (omega (arith, ints, w.1, below_all))

sum_of_three : (f : ℕ → ℕ) (a b c : ℕ) → sum_by f (a ∷ b ∷ c ∷ []) ≡ f a + (f b + f c)
sum_of_three f a b c = omega arith

-- a sum over the numbers of breaks, where there are none
over_none : (line : Line) → line.breaks ≡ [] → (f : ℕ → ℕ) → over_breaks line f ≡ f 0
over_none line none f = ap (λ rows. sum_by f (below (suc (length rows)))) none ∙ omega arith

module _ (line : Line) (steady : IsSteady line) (at_start : ReachedAtStart)
    (crossing : ReachedByCrossing) (at_end : ReachedAtEnd) (back_over : EndReachedByCrossing)
    (tested : ReachedAsTested) (end_tested : EndReachedAsTested) (alone : ArcAlone) (counted : RunsAreCounted) where
  runs_at : (k : ℕ) → k ≤ length line.arcs → runs (is_reached line k 0) ≡ 1
  runs_at k le =
      let f = steady.few in
      one_run counted (is_reached line k 0) (pos (5 * k)) (pos (5 * k)) (omega (arith, ints)) (omega (arith, ints)) (omega (arith, ints, le, f))
      (λ x. (
        λ t. let e : x ≡ pos (5 * k) = (reached line steady at_start crossing alone k le x).0 ((tested line k 0 x).0 t) in
            (omega (arith, ints, e), omega (arith, ints, e)),
        λ w. (tested line k 0 x).1 ((reached line steady at_start crossing alone k le x).1 (let lo = w.0 in let hi = w.1 in omega (arith, ints, lo, hi))),
      ))

  runs_behind : (j k : ℕ) → 0 < k → k + j ≡ length line.arcs → runs (reaches_end line k 0) ≡ 1
  runs_behind j k some is =
      let f = steady.few in
      one_run counted (reaches_end line k 0) (pos 0) (horizon -ℤ pos (5 * j)) (omega (arith, ints)) (omega (arith, ints, is, f)) (omega (arith, ints))
      (λ x. (
        λ t. let r = (reaching line steady at_end back_over alone j k some is x).0 ((end_tested line k 0 x).0 t) in (r.0, omega (arith, ints, r.1)),
        λ w. (end_tested line k 0 x).1 ((reaching line steady at_end back_over alone j k some is x).1 (w.0, omega (arith, ints, w.1))),
      ))

  arc_weighs : (k : ℕ) → k ≤ length line.arcs → over_breaks line (λ b. runs (is_reached line k b) * (length line.breaks - b + 1)) ≡ 1
  arc_weighs k le =
      over_none line steady.no_breaks (λ b. runs (is_reached line k b) * (length line.breaks - b + 1))
      ∙ (ap₂ (λ m rows. m * (length rows - 0 + 1)) (runs_at k le) steady.no_breaks ∙ refl)

  join_weighs : (j k : ℕ) → 0 < k → k + j ≡ length line.arcs → over_breaks line (λ b. runs (is_reached line k b) + runs (reaches_end line k b)) ≡ 2
  join_weighs j k some is =
      over_none line steady.no_breaks (λ b. runs (is_reached line k b) + runs (reaches_end line k b))
      ∙ ap₂ (λ m n. m + n) (runs_at k (omega (arith, is))) (runs_behind j k some is)

  -- a walk over three arcs weighs five
  pub three_arcs : (a j : ℕ) → a + 3 + j ≡ length line.arcs → walk_weight line a (a + 3) ≡ 5
  three_arcs a j is =
      let arcs : ℕ → ℕ = λ k. over_breaks line (λ b. runs (is_reached line k b) * (length line.breaks - b + 1)) in
      let n : a + 3 - a ≡ 3 = omega arith in
      let sum : sum_by arcs (from_to a (a + 3)) ≡ arcs a + (arcs (a + 1) + arcs (a + 1 + 1)) = ap (λ m. sum_by arcs (range_with_len a m)) n
      ∙ sum_of_three arcs a (a + 1) (a + 1 + 1) in
      let x = arc_weighs a (omega (arith, is)) in
      let y = arc_weighs (a + 1) (omega (arith, is)) in
      let z = arc_weighs (a + 1 + 1) (omega (arith, is)) in
      let join = join_weighs j (a + 3) (omega arith) is in
      ap₂ (λ m k. m + k) (sum ∙ ap₂ (λ m k. m + k) x (ap₂ (λ m k. m + k) y z)) join

-- a steady line has a schedule
module _ (line : Line) (steady : IsSteady line) (at_start : ReachedAtStart) (crossing : ReachedByCrossing)
    (at_end : ReachedAtEnd) (back_over : EndReachedByCrossing) (alone : ArcAlone) (meet : FeasibleWhereLevelsMeet) where
  pub goes_through : (j : ℕ) → 1 + j ≡ length line.arcs → IsFeasible line
  goes_through j is =
      let f = steady.few in
      (meet line steady.sound 1 (omega (arith, is))).1 (
        0,
        omega arith,
        pos (5 * 1),
        (reached line steady at_start crossing alone 1 (omega (arith, is)) (pos (5 * 1))).1 refl,
        (reaching line steady at_end back_over alone j 1 (omega arith) is (pos (5 * 1))).1 (omega (arith, ints), omega (arith, ints, is, f)),
      )
