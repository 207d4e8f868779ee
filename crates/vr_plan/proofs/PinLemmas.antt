-- One stop after another is settled at the least cumul that schedules have there.
use Rattle.std.proofs.Common.{◌≡◌, ℕ, zero, suc, ◌+◌, ◌<◌, ◌≤◌, true, false, Bool, ◌&&◌, List, [], ◌∷◌, ◌++◌, length, get_or, set, take, drop, ℤ, pos, ◌≤ℤ◌}
use Rattle.std.proofs.Common.{Option, Some, None, inl, inr, refl, sym, subst, ap, ◌∙◌, arith}
use Rattle.std.specs.Prelude.{is_some}
use Rattle.std.proofs.lemmas.Bool.{cases_lt}
use Rattle.std.proofs.lemmas.List.{get_or-set_same, get_or-drop, length-set, ext_get_or, get_or_append_left, length-append}
use Rattle.vr_spans.specs.declared.runs.Run.{Run}
use Rattle.vr_model.specs.tables.Numbers.{number_at, is_same_number, horizon}
use Rattle.std.proofs.lemmas.List.Elements.{All-push}
use Rattle.vr_model.specs.tables.WellFormed.{IsIn}
use Rattle.vr_model.specs.deciding.Testing.{within_is}
use Rattle.vr_model.specs.schedules.Lines.{Line as Defined, Arc}
use Rattle.vr_model.specs.schedules.Schedules.{Plan, IsSchedule, IsChosen, IsFeasible, KeepsRules, before_only, after_only, cumul, front, back, no_arc}
use Rattle.vr_model.specs.schedules.SoundLines.{IsSound}
use Rattle.vr_model.specs.schedules.Choices.{chosen}
use Rattle.vr_model.specs.schedules.ChosenLaws.{pinned}
use Rattle.vr_model.specs.declared.records.BreakRow.{BreakRow}
use Rattle.vr_model.proofs.schedules.ChoiceLaws.{chosen_is_least, chosen_where_feasible}
use Rattle.vr_model.proofs.schedules.Joining.{cumul_where_levels_meet}
use Rattle.vr_model.proofs.schedules.Narrowing.{least_cumul_may_be_pinned, to_pinned, of_pinned}
use Rattle.vr_steps.specs.declared.hops.Hop.{Hop}
use Rattle.vr_steps.specs.declared.lines.Line.{Line}
use Rattle.vr_steps.specs.Levels.{AreLevels, AreStartLevels, AreCrossed, IsCumuls}
use Rattle.vr_steps.specs.Lines.{IsLineOf, IsSoundLine, hop_of}
use Rattle.vr_steps.specs.Reached.{IsAllowedSet, AreReached, AreReachingEnd, hop_at, StandsFor}
use Rattle.vr_steps.proofs.LawLemmas.{lines_stand_for_theirs, reached_behind_arc, start_is_reached}
use Rattle.vr_reach.specs.Rows.{AreBackward, IsForwardRow, row_at}
use Rattle.vr_reach.specs.Shared.{SharedAt, IsLeastSharedCumul}
use Rattle.vr_plan.proofs.SlackLemmas.{number_last}
use Rattle.vr_plan.specs.Settled.{IsOnly, IsNarrowed, IsSettled, IsUnfeasible, HaveChosenCumuls}

take_set : {A : Type 0} (xs : List A) (n k : ℕ) (x : A) → n ≤ k → take n (set xs k x) ≡ take n xs
take_set xs zero k x le = refl
take_set [] (suc n) k x le = refl
take_set (y ∷ ys) (suc n) zero x le = absurd (omega (arith, le))
take_set (y ∷ ys) (suc n) (suc k) x le = ap (λ zs. y ∷ zs) (take_set ys n k x (omega (arith, le)))

drop_set : {A : Type 0} (xs : List A) (n k : ℕ) (x : A) → k < n → drop n (set xs k x) ≡ drop n xs
drop_set xs zero k x lt = absurd (omega (arith, lt))
drop_set [] (suc n) k x lt = refl
drop_set (y ∷ ys) (suc n) zero x lt = refl
drop_set (y ∷ ys) (suc n) (suc k) x lt = drop_set ys n k x (omega (arith, lt))

drop_next : {A : Type 0} (xs : List A) (n : ℕ) → drop 1 (drop n xs) ≡ drop (suc n) xs
drop_next xs zero = refl
drop_next [] (suc n) = refl
drop_next (y ∷ ys) (suc n) = drop_next ys n

drop_one_more : (xs ys : List (ℤ → Bool)) (n : ℕ) → drop n xs ≡ drop n ys → drop (suc n) xs ≡ drop (suc n) ys
drop_one_more xs ys n e = sym (drop_next xs n) ∙ (ap (drop 1) e ∙ drop_next ys n)

-- the parts of a line are settled by its lists
abbrev make_back : List (ℤ → Bool) → List Arc → ℤ → List BreakRow → Defined
make_back allowed arcs slack rows = record { allowed = allowed; arcs = arcs; slack_max = slack; breaks = rows }

-- a line whose least cumul at a stop is put in
module _ (line : Defined) (sound : IsSound line) (j : ℕ) (le : j ≤ length line.arcs) (from to : List (List Run))
    (long : length from ≡ suc (length line.breaks)) (long_too : length to ≡ suc (length line.breaks))
    (reached : AreReached line j from) (reaching : AreReachingEnd line j to) where
  there : j < length line.allowed
  there = let n = sound.stops in omega (arith, n, le)

  -- what schedules have there is shared
  pub shared_of : (plan : Plan) → IsSchedule line plan → SharedAt from to (cumul plan j)
  shared_of plan s =
      let m = (cumul_where_levels_meet line sound j le (cumul plan j)).0 (plan, s, refl) in (
        m.0,
        let le = m.1 in omega (arith, le, long),
        let le = m.1 in omega (arith, le, long_too),
        (reached m.0 m.1 (cumul plan j)).1 m.2,
        (reaching m.0 m.1 (cumul plan j)).1 m.3,
      )

  -- and what is shared some schedule has there
  pub schedule_of : (x : ℤ) → SharedAt from to x → (plan : Plan) × IsSchedule line plan × (cumul plan j ≡ x)
  schedule_of x m =
      let few : m.0 ≤ length line.breaks = let lt = m.1 in omega (arith, lt, long) in
      (cumul_where_levels_meet line sound j le x).1 (m.0, few, (reached m.0 few x).0 m.3, (reaching m.0 few x).0 m.4)

  -- where nothing is shared there is no schedule
  pub none_shared : ((x : ℤ) → SharedAt from to x → ⊥) → IsFeasible line → ⊥
  none_shared none feasible = none (cumul feasible.0 j) (shared_of feasible.0 feasible.1)

  module _ (x : ℤ) (least : IsLeastSharedCumul from to x) where
    least_of_all : (other : Plan) → IsSchedule line other → x ≤ℤ cumul other j
    least_of_all other s = least.least (cumul other j) (shared_of other s)

    pub pinned_feasible : IsFeasible (pinned line j x)
    pinned_feasible =
        let plan = schedule_of x least.shared in
        (plan.0, to_pinned line j x there plan.0 plan.1 plan.2)

    pub pinned_chosen : ((plan : Plan) → (other : Plan) → IsSchedule line plan → IsSchedule line other → (i : ℕ) → i < j → cumul plan i ≡ cumul other i)
        → (plan : Plan) → IsChosen (pinned line j x) plan → IsChosen line plan
    pinned_chosen before plan chosen = least_cumul_may_be_pinned line j x there before least_of_all plan chosen

    pub pinned_sound : IsSound (pinned line j x)
    pinned_sound = record {
      stops =
          let n = length-set line.allowed j (λ y. get_or line.allowed j (λ _. false) y && is_same_number x y) in
          let m = sound.stops in
          omega (arith, n, m);
      visits = sound.visits;
      durations = sound.durations;
      forward = sound.forward;
    }

    -- what the stop allows then
    pub pinned_allows : (set only : List Run) → IsAllowedSet line j set → IsOnly set x only → IsCumuls only → IsAllowedSet (pinned line j x) j only
    pinned_allows set only allowed is cumuls = record {
      exact = λ y. is y
          ∙ (ap (λ b. b && is_same_number x y) (allowed.exact y)
          ∙ sym (ap (λ t. t y) (get_or-set_same line.allowed j (λ y. get_or line.allowed j (λ _. false) y && is_same_number x y) (λ _. false) there)));
      cumuls = cumuls;
    }

    -- what is reached before stays
    pub pinned_reached : (k : ℕ) (here : List (List Run)) → k < j → AreReached line k here → AreReached (pinned line j x) k here
    pinned_reached k here lt before b few y =
        let same : front (pinned line j x) k b ≡ front line k b = ap (λ allowed. make_back allowed (take k line.arcs) line.slack_max (take b line.breaks))
        (take_set line.allowed (suc k) j _ lt) in
        let is = before b few y in (
          λ there. let m = is.0 there in (m.0, subst (λ l. KeepsRules before_only l m.0) (sym same) m.1, m.2),
          λ m. is.1 (m.0, subst (λ l. KeepsRules before_only l m.0) same m.1, m.2),
        )

-- what the end is reached from, by the later parts of a line
reaching_same : (line narrow : Defined) (k : ℕ) → drop (suc k) narrow.allowed ≡ drop (suc k) line.allowed
    → narrow.arcs ≡ line.arcs → narrow.slack_max ≡ line.slack_max → narrow.breaks ≡ line.breaks
    → (to : List (List Run)) → AreReachingEnd line (suc k) to → AreReachingEnd narrow (suc k) to
reaching_same line narrow k rest arcs slack breaks to are b few y =
    let same : back narrow (suc k) b ≡ back line (suc k) b = λ i. make_back (rest i) (drop (suc k) (arcs i)) (slack i) (drop b (breaks i)) in
    let is = are b (subst (λ rows. b ≤ length rows) breaks few) y in (
      λ there. let m = is.0 there in (m.0, subst (λ l. KeepsRules after_only l m.0) (sym same) m.1, m.2),
      λ m. is.1 (m.0, subst (λ l. KeepsRules after_only l m.0) same m.1, m.2),
    )

number_before : (cumuls : List ℤ) (x : ℤ) (i : ℕ) → i < length cumuls → number_at (cumuls ++ x ∷ []) i ≡ number_at cumuls i
number_before cumuls x i lt = get_or_append_left cumuls (x ∷ []) (pos 0) i lt

-- the levels of a line have as many sets
pub long_of : (made : Line) → IsSoundLine made → (defined : Defined) → IsLineOf defined made
    → (levels : List (List Run)) → AreLevels made.breaks levels → length levels ≡ suc (length defined.breaks)
long_of made sound_made defined of levels m = m.one_more ∙ ap (λ bs. suc (length bs)) (sym (lines_stand_for_theirs defined made of sound_made).breaks)

module _ (made : Line) (rows : List (List (List Run))) (sound_made : IsSoundLine made) (are : AreBackward made rows) where
  -- no cumul is shared at the start
  pub unfeasible_at_start : (from to : List (List Run)) → IsForwardRow made 0 from → row_at rows 0 ≡ to → ((x : ℤ) → SharedAt from to x → ⊥) → IsUnfeasible made
  unfeasible_at_start from to first last none defined of feasible =
      let s = lines_stand_for_theirs defined made of sound_made in
      let n = sound_made.stops in
      let ahead : AreLevels made.breaks from × AreReached defined 0 from = (first.form, first.exact defined of) in
      let behind = subst (λ r. AreLevels made.breaks r × AreReachingEnd defined 0 r)
      last (let m = are.each 0 (omega (arith, n)) in (m.form, m.exact defined of)) in
      none_shared defined s.sound 0 (omega arith) from to (long_of made sound_made defined of from ahead.0)
      (long_of made sound_made defined of to behind.0) ahead.1 behind.1 none feasible

  -- the start is settled
  pub settled_at_start : (from to : List (List Run)) → IsForwardRow made 0 from → row_at rows 0 ≡ to → (x : ℤ)
      → IsLeastSharedCumul from to x → (set only : List Run) (here : List (List Run)) → ((d : List Run) → get_or made.allowed 0 d ≡ set)
      → IsOnly set x only → IsCumuls only → AreStartLevels only made.breaks here → IsIn (pos 0) horizon x → IsSettled made 0 (x ∷ []) here
  settled_at_start from to first last x least set only here set_is is cumuls levels range = record {
    cumul_of_each = refl;
    in_range = All-push (IsIn (pos 0) horizon) [] x (λ i d lt. absurd (omega arith)) range;
    narrowed = λ defined of.
        let s = lines_stand_for_theirs defined made of sound_made in
        let n = sound_made.stops in
        let ahead : AreLevels made.breaks from × AreReached defined 0 from = (first.form, first.exact defined of) in
        let behind = subst (λ r. AreLevels made.breaks r × AreReachingEnd defined 0 r)
        last (let m = are.each 0 (omega (arith, n)) in (m.form, m.exact defined of)) in
        let long = long_of made sound_made defined of from ahead.0 in
        let long_too = long_of made sound_made defined of to behind.0 in
        let le : 0 ≤ length defined.arcs = omega arith in
        let here_sound = pinned_sound defined s.sound 0 le from to long long_too ahead.1 behind.1 x least in
        let allowed = pinned_allows defined s.sound 0 le from to long long_too ahead.1 behind.1 x least set
        only (subst (IsAllowedSet defined 0) (set_is []) (s.allowed 0 (omega (arith, n)))) is cumuls in (
          pinned defined 0 x,
          record {
            sound = here_sound;
            arcs = refl;
            slack = refl;
            breaks = refl;
            stops = length-set defined.allowed 0 _;
            rest = drop_set defined.allowed 1 0 _ (omega arith);
            feasible = pinned_feasible defined s.sound 0 le from to long long_too ahead.1 behind.1 x least;
            chosen = pinned_chosen defined s.sound 0 le from to long long_too ahead.1 behind.1 x least (λ p q sp sq i lt. absurd (omega (arith, lt)));
            settled = λ plan sch i low. let e : 0 ≡ i = omega (arith, low) in
                subst (λ i. cumul plan i ≡ number_at (x ∷ []) i) e (of_pinned defined 0 x (omega (arith, s.sound.stops)) plan sch).1;
            reached = start_is_reached (pinned defined 0 x) here_sound only here allowed (subst (λ bs. AreStartLevels only bs here) (sym s.breaks) levels);
          },
        );
  }

  module _ (k : ℕ) (lt : k < length made.hops) (cumuls : List ℤ) (here : List (List Run)) (settled : IsSettled made k cumuls here) (set : List Run)
      (hop : Hop) (from to : List (List Run)) (set_is : (d : List Run) → get_or made.allowed (k + 1) d ≡ set) (hop_is : (d : Hop) → get_or made.hops k d ≡ hop)
      (crossed : AreCrossed here hop set made.breaks from) (fit : AreLevels made.breaks from) (to_is : row_at rows (k + 1) ≡ to) where
    module _ (defined : Defined) (of : IsLineOf defined made) where
      s : StandsFor defined made
      s = lines_stand_for_theirs defined made of sound_made

      abbrev narrow : Defined
      narrow = (settled.narrowed defined of).0

      m : IsNarrowed defined k cumuls here (settled.narrowed defined of).0
      m = (settled.narrowed defined of).1

      next : k + 1 ≡ suc k
      next = omega arith

      low : k < length (settled.narrowed defined of).0.arcs
      low = let e = ap length m.arcs in let n = s.arcs in omega (arith, e, n, lt)

      hop_same : hop ≡ hop_at (settled.narrowed defined of).0 k
      hop_same = sym (hop_is hop) ∙ (s.hops k hop lt ∙ (λ i. hop_of (sym m.slack i) (get_or (sym m.arcs i) k no_arc)))

      back_row : AreLevels made.breaks to × AreReachingEnd defined (suc k) to
      back_row = subst (λ i. AreLevels made.breaks to × AreReachingEnd defined i to) next
          (subst (λ r. AreLevels made.breaks r × AreReachingEnd defined (k + 1) r) to_is
          (let r = are.each (k + 1) (omega (arith, sound_made.stops, lt)) in (r.form, r.exact defined of)))

      reaching : AreReachingEnd (settled.narrowed defined of).0 (suc k) to
      reaching = reaching_same defined (settled.narrowed defined of).0 k m.rest m.arcs m.slack m.breaks to back_row.1

      allowed : IsAllowedSet (settled.narrowed defined of).0 (suc k) set
      allowed =
          let theirs = subst (λ i. IsAllowedSet defined i set) next
          (subst (IsAllowedSet defined (k + 1)) (set_is []) (s.allowed (k + 1) (omega (arith, sound_made.stops, lt)))) in
          let zero_more : suc k + 0 ≡ suc k = omega arith in
          let same : get_or (settled.narrowed defined of).0.allowed (suc k) (λ _. false) ≡ get_or defined.allowed (suc k) (λ _. false) =
          ap (λ i. get_or (settled.narrowed defined of).0.allowed i (λ _. false)) (sym zero_more)
          ∙ (sym (get_or-drop (suc k) (settled.narrowed defined of).0.allowed 0 (λ _. false))
          ∙ (ap (λ ts. get_or ts 0 (λ _. false)) m.rest
          ∙ (get_or-drop (suc k) defined.allowed 0 (λ _. false) ∙ ap (λ i. get_or defined.allowed i (λ _. false)) zero_more))) in
          record { exact = λ y. theirs.exact y ∙ sym (ap (λ t. t y) same); cumuls = theirs.cumuls }

      ahead : AreReached (settled.narrowed defined of).0 (suc k) from
      ahead = reached_behind_arc (settled.narrowed defined of).0 m.sound k low set here from allowed m.reached
          (subst (λ bs. AreCrossed here (hop_at (settled.narrowed defined of).0 k) set bs from)
          (sym (m.breaks ∙ s.breaks)) (subst (λ h. AreCrossed here h set made.breaks from) hop_same crossed))

      long : length from ≡ suc (length (settled.narrowed defined of).0.breaks)
      long = fit.one_more ∙ ap (λ bs. suc (length bs)) (sym (m.breaks ∙ s.breaks))

      long_too : length to ≡ suc (length (settled.narrowed defined of).0.breaks)
      long_too = back_row.0.one_more ∙ ap (λ bs. suc (length bs)) (sym (m.breaks ∙ s.breaks))

    -- no cumul is shared at the stop behind the arc
    pub unfeasible_behind : ((x : ℤ) → SharedAt from to x → ⊥) → IsUnfeasible made
    unfeasible_behind none defined of feasible =
        none_shared (narrow defined of) (m defined of).sound (suc k) (low defined of) from to (long defined of)
        (long_too defined of) (ahead defined of) (reaching defined of) none (m defined of).feasible

    -- the stop behind the arc is settled
    pub settled_behind : (x : ℤ) → IsLeastSharedCumul from to x → (only : List Run) (new : List (List Run)) → IsOnly set x only
        → IsCumuls only → AreCrossed here hop only made.breaks new → IsIn (pos 0) horizon x → IsSettled made (k + 1) (cumuls ++ x ∷ []) new
    settled_behind x least only new is only_cumuls only_crossed range =
        let behind : suc k ≡ k + 1 = omega arith in
        subst (λ i. IsSettled made i (cumuls ++ x ∷ []) new) behind (record {
          cumul_of_each = let n = settled.cumul_of_each in let e = length-append cumuls (x ∷ []) in omega (arith, n, e);
          in_range = All-push (IsIn (pos 0) horizon) cumuls x settled.in_range range;
          narrowed = λ defined of.
              let old = m defined of in
              let line = narrow defined of in
              let le = low defined of in
              let in_stops : suc k < length line.allowed = let n = old.sound.stops in omega (arith, n, le) in
              let here_sound = pinned_sound line old.sound (suc k) le from to (long defined of)
              (long_too defined of) (ahead defined of) (reaching defined of) x least in
              let only_allowed = pinned_allows line old.sound (suc k) le from to (long defined of) (long_too defined of)
              (ahead defined of) (reaching defined of) x least set only (allowed defined of) is only_cumuls in
              let before = pinned_reached line old.sound (suc k) le from to (long defined of) (long_too defined of)
              (ahead defined of) (reaching defined of) x least k here (omega arith) old.reached in
              let n = settled.cumul_of_each in (
                pinned line (suc k) x,
                record {
                  sound = here_sound;
                  arcs = old.arcs;
                  slack = old.slack;
                  breaks = old.breaks;
                  stops = length-set line.allowed (suc k) _ ∙ old.stops;
                  rest = drop_set line.allowed (suc (suc k)) (suc k) _ (omega arith) ∙ drop_one_more line.allowed defined.allowed (suc k) old.rest;
                  feasible =
                      pinned_feasible line old.sound (suc k) le from to (long defined of)
                      (long_too defined of) (ahead defined of) (reaching defined of) x least;
                  chosen = λ plan c. old.chosen plan
                      (pinned_chosen line old.sound (suc k) le from to (long defined of) (long_too defined of) (ahead defined of) (reaching defined of) x least
                      (λ p q sp sq i low. old.settled p sp i (omega (arith, low)) ∙ sym (old.settled q sq i (omega (arith, low)))) plan c);
                  settled = λ plan sch i low.
                      let both = of_pinned line (suc k) x in_stops plan sch in
                      elim (cases_lt i (suc k)) [
                        | inl earlier ↦ old.settled plan both.0 i (omega (arith, earlier)) ∙ sym (number_before cumuls x i (omega (arith, earlier, n)))
                        | inr at ↦ (let e : suc k ≡ i = omega (arith, low, at) in
                            ap (cumul plan) (sym e) ∙ (both.1 ∙ sym (number_last cumuls x i (omega (arith, n, e)))))
                      ];
                  reached = reached_behind_arc (pinned line (suc k) x) here_sound k le only here new only_allowed before
                      (subst (λ bs. AreCrossed here (hop_at line k) only bs new) (sym (old.breaks ∙ (s defined of).breaks))
                      (subst (λ h. AreCrossed here h only made.breaks new) (hop_same defined of) only_crossed));
                },
              );
        })

-- what is there where a test finds it
some_of : {A : Type 0} (found : Option A) → is_some found ≡ true → (x : A) × (found ≡ Some x)
some_of None is = absurd (let f : false ≡ true → ⊥ = λ e. cc in f is)
some_of (Some x) is = (x, refl)

-- where all stops are settled, the cumuls are those of the chosen schedule
pub chosen_where_settled : (made : Line) → IsSoundLine made → (cumuls : List ℤ) (here : List (List Run)) (k : ℕ)
    → k ≡ length made.hops → IsSettled made k cumuls here → HaveChosenCumuls made cumuls
chosen_where_settled made sound cumuls here k last settled = record {
  cumul_of_each_stop = let a = settled.cumul_of_each in let b = sound.stops in omega (arith, a, b, last);
  in_range = settled.in_range;
  chosen = λ defined of.
      let s = lines_stand_for_theirs defined made of sound in
      let m = (settled.narrowed defined of).1 in
      let line = (settled.narrowed defined of).0 in
      let found = some_of (chosen line) ((chosen_where_feasible line).1 m.feasible) in
      let plan = found.0 in
      let is = (chosen_is_least line plan).0 found.1 in
      let sch = is.schedule in
      let long : length plan.cumuls ≡ length cumuls = let a = sch.cumul_of_each_stop in let b = m.stops in
      let c = s.sound.stops in let d = s.arcs in let e = settled.cumul_of_each in omega (arith, a, b, c, d, e, last) in (
        plan,
        m.chosen plan is,
        ext_get_or (pos 0) plan.cumuls cumuls long (λ i lt. m.settled plan sch i (let e = settled.cumul_of_each in omega (arith, lt, long, e))),
      );
}

-- a shared cumul lies in its range
pub shared_range : (bs : List BreakRow) (from to : List (List Run)) (x : ℤ) → AreLevels bs from → SharedAt from to x → IsIn (pos 0) horizon x
shared_range bs from to x levels m =
    let range = within_is (pos 0) horizon x (levels.cumuls m.0 [] m.1 x m.3) in
    record { at_least = range.0; at_most = range.1 }
