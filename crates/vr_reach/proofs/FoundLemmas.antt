-- Cumuls that are found stop by stop: there are no others of this kind.
use Rattle.std.proofs.Common.{◌≡◌, ◌∙◌, ℕ, zero, suc, ◌+◌, ◌<◌, ◌≤◌, ◌⊎◌, inl, inr, Bool, true, false, List, [], ◌∷◌, ◌++◌, length, ℤ, pos, ◌≤ℤ◌, ◌<ℤ◌, ◌+ℤ◌}
use Rattle.std.proofs.Common.{refl, sym, subst, arith}
use Rattle.std.specs.Prelude.{IsTrue, int_le, slice_index_or, ◌&&◌, ◌-ℤ◌}
use Rattle.std.specs.Int.{int_max}
use Rattle.std.proofs.lemmas.Bool.{and_parts, and_from}
use Rattle.std.proofs.lemmas.Int.{ints, clamps}
use Rattle.std.proofs.lemmas.List.{length-append}
use Rattle.vr_spans.specs.declared.runs.Run.{Run}
use Rattle.vr_spans.specs.Runs.{in_run}
use Rattle.vr_model.specs.tables.Numbers.{horizon, number_at, within}
use Rattle.vr_model.specs.tables.Tables.{dimension_at, transit}
use Rattle.vr_model.specs.declared.records.Model.{Model}
use Rattle.vr_model.specs.schedules.Lines.{Line, line}
use Rattle.vr_model.specs.schedules.Schedules.{allows, arc_at}
use Rattle.vr_model.proofs.tables.Tests.{clash}
use Rattle.vr_reach.specs.Early.{allows_from, has_cumul_behind, slack_left, AreFoundInTurn, IsEarliestPassing, IsEarliestBehind}
use Rattle.vr_reach.specs.Lists.{node_at_stop}
use Rattle.vr_steps.specs.Stops.{allowed_by}
use Rattle.vr_steps.specs.declared.stops.StopName.TheVariants.{Start}
use Rattle.vr_reach.specs.VisitRuns.{IsAllowedRun, IsRunFor}
use Rattle.vr_reach.proofs.EarlyLemmas.{allowed_in, at_new, at_old, not_below}
use Rattle.vr_reach.proofs.LineParts.{way_of}

-- two numbers are not both the earliest
one_earliest : (test : ℤ → Bool) (x y : ℤ) → IsEarliestPassing test x → IsEarliestPassing test y → x ≡ y
one_earliest test x y is is_too =
    let a = is.least y is_too.passes in
    let b = is_too.least x is.passes in
    omega (arith, ints, a, b)

-- what a stop allows lies in its run
inside : (line : Line) (k : ℕ) (run : Run) (x : ℤ) → IsAllowedRun line k run → IsTrue (allows line k x) → IsTrue (in_run run x)
inside line k run x is there = is.exact x ∙ (and_parts (within (pos 0) horizon x) (slice_index_or line.allowed k (λ _. false) x) there).1

-- whether there is a cumul behind an arc, by the earliest
module _ (cumul t s : ℤ) (run : Run) (next : ℤ) (is : next ≡ int_max (cumul +ℤ t) run.lo) where
  pub is_behind : next ≤ℤ run.hi → (next -ℤ (cumul +ℤ t)) ≤ℤ s → has_cumul_behind cumul t s run ≡ true
  is_behind most near = subst (λ x. (int_le x run.hi && int_le (x -ℤ (cumul +ℤ t)) s) ≡ true) is (grind (arith, ints, most, near))

  pub too_late : run.hi <ℤ next → has_cumul_behind cumul t s run ≡ false
  too_late late = subst (λ x. (int_le x run.hi && int_le (x -ℤ (cumul +ℤ t)) s) ≡ false) is (grind (arith, ints, late))

  pub too_great : s <ℤ (next -ℤ (cumul +ℤ t)) → has_cumul_behind cumul t s run ≡ false
  too_great far = subst (λ x. (int_le x run.hi && int_le (x -ℤ (cumul +ℤ t)) s) ≡ false) is (grind (arith, ints, far))

-- a cumul of the run behind an arc, within the slack: then there is one
some_behind : (cumul t s : ℤ) (run : Run) (y : ℤ) → IsTrue (in_run run y) → (cumul +ℤ t) ≤ℤ y → y ≤ℤ ((cumul +ℤ t) +ℤ s) → has_cumul_behind cumul t s run ≡ true
some_behind cumul t s run y there from most =
    let next = int_max (cumul +ℤ t) run.lo in
    let low : run.lo ≤ℤ y = grind (arith, ints, there) in
    let high : y ≤ℤ run.hi = grind (arith, ints, there) in
    is_behind cumul t s run next refl (omega (arith, ints, clamps, from, low, high)) (omega (arith, ints, clamps, from, low, most))

module _ (line : Line) where
  -- the start alone
  pub begin_found : (run : Run) → IsAllowedRun line 0 run → run.lo ≤ℤ run.hi → AreFoundInTurn line 0 (run.lo ∷ [])
  begin_found run is some = record {
    many = refl;
    start = record { passes = allowed_in line 0 run run.lo is (omega (arith, ints)) some; least = λ y there. not_below line 0 run y is there };
    next = λ i low. absurd (omega (arith, low));
    slacks = λ i low. absurd (omega (arith, low));
  }

  -- a start that allows none
  pub none_begun : (run : Run) → IsAllowedRun line 0 run → run.hi <ℤ run.lo → (n : ℕ) (others : List ℤ) → AreFoundInTurn line n others → ⊥
  none_begun run is empty n others are =
      let there = inside line 0 run (number_at others 0) is are.start.passes in
      by run (number_at others 0) empty there
    where
      by : (run : Run) (x : ℤ) → run.hi <ℤ run.lo → IsTrue (in_run run x) → ⊥
      by run x empty there = grind (arith, ints, empty, there)

  -- one stop more
  module _ (k : ℕ) (cumuls : List ℤ) (are : AreFoundInTurn line k cumuls) (run : Run) (is : IsAllowedRun line (suc k) run) where
    pub step_found : (next : ℤ) → IsEarliestBehind (number_at cumuls k) (arc_at line k).transit line.slack_max run next
        → AreFoundInTurn line (suc k) (cumuls ++ next ∷ [])
    step_found next behind = record {
      many = let n = length-append cumuls (next ∷ []) in let m = are.many in omega (arith, n, m);
      start = subst (IsEarliestPassing (allows line 0)) (sym (old 0 (omega arith))) are.start;
      next = λ i less. elim (sooner i less) [
        | inl before ↦ subst (λ x. IsEarliestPassing (allows_from line i x) (number_at (cumuls ++ next ∷ []) (suc i))) (sym (old i (omega (arith, before))))
            (subst (IsEarliestPassing (allows_from line i (number_at cumuls i))) (sym (old (suc i) (omega (arith, before)))) (are.next i before))
        | inr new ↦ subst (λ j. IsEarliestPassing (allows_from line j (number_at (cumuls ++ next ∷ []) j)) (number_at (cumuls ++ next ∷ []) (suc j))) (sym new)
            (subst (λ x. IsEarliestPassing (allows_from line k x) (number_at (cumuls ++ next ∷ []) (suc k)))
            (sym (old k (omega arith))) (subst (IsEarliestPassing (allows_from line k (number_at cumuls k))) (sym last) here))
      ];
      slacks = λ i less. elim (sooner i less) [
        | inl before ↦ (let a = old i (omega (arith, before)) in
            let b = old (suc i) (omega (arith, before)) in
            let s = are.slacks i before in
            omega (arith, ints, a, b, s))
        | inr new ↦ subst (λ j. slack_left line (cumuls ++ next ∷ []) j ≤ℤ line.slack_max) (sym new)
            (let a = old k (omega arith) in let most = behind.slack in omega (arith, ints, a, last, most))
      ];
    }
      where
        sooner : (i : ℕ) → i < suc k → (i < k) ⊎ (i ≡ k)
        sooner i less = Prim.grind arith

        old : (i : ℕ) → i ≤ k → number_at (cumuls ++ next ∷ []) i ≡ number_at cumuls i
        old i le = at_old cumuls next i (let m = are.many in omega (arith, m, le))

        last : number_at (cumuls ++ next ∷ []) (suc k) ≡ next
        last = at_new cumuls next (suc k) are.many

        above : run.lo ≤ℤ next
        above = let e = behind.least in omega (arith, ints, clamps, e)

        from : (number_at cumuls k +ℤ (arc_at line k).transit) ≤ℤ next
        from = let e = behind.least in omega (arith, ints, clamps, e)

        here : IsEarliestPassing (allows_from line k (number_at cumuls k)) next
        here = record {
          passes = and_from (allows line (suc k) next) (int_le (number_at cumuls k +ℤ (arc_at line k).transit) next)
              (allowed_in line (suc k) run next is above behind.most) (let f = from in grind (arith, ints, f));
          least = λ y there.
              let parts = and_parts (allows line (suc k) y) (int_le (number_at cumuls k +ℤ (arc_at line k).transit) y) there in
              no_earlier y parts.0 parts.1;
        }
          where
            no_earlier : (y : ℤ) → IsTrue (allows line (suc k) y) → IsTrue (int_le (number_at cumuls k +ℤ (arc_at line k).transit) y) → next ≤ℤ y
            no_earlier y allowed late =
                let low = not_below line (suc k) run y is allowed in
                let least = behind.least in
                let e : (number_at cumuls k +ℤ (arc_at line k).transit) ≤ℤ y = grind (arith, ints, late) in
                omega (arith, ints, clamps, least, low, e)

    -- others are the same so far
    same_found : (n : ℕ) (others : List ℤ) → AreFoundInTurn line n others → (i : ℕ) → i ≤ k → i ≤ n → number_at others i ≡ number_at cumuls i
    same_found n others are_too zero le le_too = one_earliest (allows line 0) (number_at others 0) (number_at cumuls 0) are_too.start are.start
    same_found n others are_too (suc i) le le_too =
        let e = same_found n others are_too i (omega (arith, le)) (omega (arith, le_too)) in
        one_earliest (allows_from line i (number_at cumuls i)) (number_at others (suc i)) (number_at cumuls (suc i))
        (subst (λ x. IsEarliestPassing (allows_from line i x) (number_at others (suc i))) e (are_too.next i (omega (arith, le_too))))
        (are.next i (omega (arith, le)))

    -- where there is no cumul behind the arc, there are no others
    pub none_found : has_cumul_behind (number_at cumuls k) (arc_at line k).transit line.slack_max run ≡ false
        → (n : ℕ) (others : List ℤ) → k < n → AreFoundInTurn line n others → ⊥
    none_found none n others low are_too =
        let y = number_at others (suc k) in
        let e = same_found n others are_too k (omega arith) (omega (arith, low)) in
        let there = subst (λ x. IsEarliestPassing (allows_from line k x) y) e (are_too.next k low) in
        let parts = and_parts (allows line (suc k) y) (int_le (number_at cumuls k +ℤ (arc_at line k).transit) y) there.passes in
        let slack = are_too.slacks k low in
        let late = parts.1 in
        clash _
        (some_behind (number_at cumuls k) (arc_at line k).transit line.slack_max run y
        (inside line (suc k) run y is parts.0) (grind (arith, ints, late)) (omega (arith, ints, slack, e))) none

-- ---- along the line of a list

module _ (model : Model) (d v : ℕ) (list : List ℕ) where
  pub begin_found_list : (run : Run) → IsRunFor (allowed_by model d v Start) run → run.lo ≤ℤ run.hi
      → (cumuls : List ℤ) → cumuls ≡ run.lo ∷ [] → AreFoundInTurn (line model d v list) 0 cumuls
  begin_found_list run is some cumuls are =
      subst (AreFoundInTurn (line model d v list) 0) (sym are) (begin_found (line model d v list) run (record { exact = is.exact; ends = is.ends }) some)

  pub none_begun_list : (run : Run) → IsRunFor (allowed_by model d v Start) run → run.hi <ℤ run.lo
      → (n : ℕ) (others : List ℤ) → AreFoundInTurn (line model d v list) n others → ⊥
  none_begun_list run is empty n others are = none_begun (line model d v list) run (record { exact = is.exact; ends = is.ends }) empty n others are

  -- behind the arc from stop k
  module _ (k : ℕ) (cumuls : List ℤ) (le : k ≤ length list) (are : AreFoundInTurn (line model d v list) k cumuls)
      (run : Run) (allowed : IsAllowedRun (line model d v list) (k + 1) run)
      (origin target : ℕ) (from : origin ≡ node_at_stop model v list k) (to : target ≡ node_at_stop model v list (k + 1))
      (cumul t s : ℤ) (cumul_is : cumul ≡ number_at cumuls k) (t_is : t ≡ transit model d v origin target) (s_is : s ≡ (dimension_at model d).slack_max) where
    next_stop : k + 1 ≡ suc k
    next_stop = omega arith

    way : t ≡ (arc_at (line model d v list) k).transit
    way = way_of model d v list k origin target le from to t t_is

    allowed_next : IsAllowedRun (line model d v list) (suc k) run
    allowed_next = subst (λ i. IsAllowedRun (line model d v list) i run) next_stop allowed

    pub found_next : (next : ℤ) → IsEarliestBehind cumul t s run next → AreFoundInTurn (line model d v list) (k + 1) (cumuls ++ next ∷ [])
    found_next next behind =
        let here = subst (λ x. IsEarliestBehind x t s run next) cumul_is behind in
        let there = subst (λ x. IsEarliestBehind (number_at cumuls k) x s run next) way here in
        let last = subst (λ x. IsEarliestBehind (number_at cumuls k) (arc_at (line model d v list) k).transit x run next) s_is there in
        subst (λ i. AreFoundInTurn (line model d v list) i (cumuls ++ next ∷ [])) (sym next_stop)
        (step_found (line model d v list) k cumuls are run allowed_next next last)

    pub found_none : has_cumul_behind cumul t s run ≡ false → (others : List ℤ) → AreFoundInTurn (line model d v list) (suc (length list)) others → ⊥
    found_none none others are_too =
        let here = subst (λ x. has_cumul_behind x t s run ≡ false) cumul_is none in
        let there = subst (λ x. has_cumul_behind (number_at cumuls k) x s run ≡ false) way here in
        let last = subst (λ x. has_cumul_behind (number_at cumuls k) (arc_at (line model d v list) k).transit x run ≡ false) s_is there in
        none_found (line model d v list) k cumuls are run allowed_next last (suc (length list)) others (omega (arith, le)) are_too
