-- An arc with breaks inside.
use Rattle.std.proofs.Common.{◌≡◌, ℕ, zero, suc, ◌+◌, ◌<◌, true, false, ◌&&◌, ◌⊎◌, inl, inr, cond, List, [], ◌∷◌, length, get_or, All, ℤ, pos, ◌+ℤ◌, ◌-ℤ◌, ◌≤ℤ◌}
use Rattle.std.proofs.Common.{refl, sym, subst, ap, ap₂, ◌∙◌, arith}
use Rattle.std.specs.Prelude.{IsTrue, EachIndex, int_le}
use Rattle.std.specs.List.{range_with_len}
use Rattle.std.proofs.lemmas.Int.{ints, clamps}
use Rattle.vr_model.specs.tables.Numbers.{horizon, within, total_by}
use Rattle.vr_model.specs.deciding.Testing.{and_left, and_right, and_both, le_of_test, test_of_le, within_is}
use Rattle.vr_model.specs.schedules.Schedules.{Plan, no_side, no_break, KeepsRules, cumul, slack, allows, arc_at, break_time, break_start, break_end, break_at}
use Rattle.vr_model.specs.schedules.Schedules.{is_inside, is_before, is_after}
use Rattle.vr_model.specs.tables.WellFormed.{IsBreak}
use Rattle.vr_model.specs.declared.records.BreakRow.{BreakRow}
use Rattle.vr_steps.specs.declared.hops.Hop.{Hop}
use Rattle.vr_steps.specs.declared.chains.Chain.{Chain}
use Rattle.vr_steps.specs.declared.passages.Passage.{Passage}
use Rattle.vr_steps.specs.Arcs.{IsSoundHop, one_arc, Leads}
use Rattle.vr_steps.specs.Chains.{total_duration, CanBeginInTime, IsChainOf}
use Rattle.vr_steps.specs.Passages.{MeetsPassage, IsOpen, IsPassage, LeadsNowhere, IsOver, HasWay}
use Rattle.vr_steps.proofs.ChainLemmas.{IsChain, HaveDurations, HasRoom, Starts, durations_from_rows, room_from_chain, chain_from_room, chain_from_starts}
use Rattle.vr_steps.proofs.ChainLemmas.{starts_from_chain}

no_false : {A : Type 0} → IsTrue false → A
no_false h = absurd (clash h)
  where
    clash : false ≡ true → ⊥
    clash e = cc

-- what an arc with these breaks inside asks of the cumuls at its ends
pub record LeadsOver (hop : Hop) (rows : List BreakRow) (y x : ℤ) : Type 0 where
  pub begin : IsTrue (within (pos 0) horizon y)
  pub «end» : IsTrue (within (pos 0) horizon x)
  pub carried : total_duration rows ≤ℤ ((x -ℤ y) -ℤ hop.transit)
  pub bounded : ((x -ℤ y) -ℤ hop.transit) ≤ℤ hop.slack
  pub chain : IsChain rows (y +ℤ hop.visit) x

-- the durations of breaks, added up by place
sum_durations : (rows : List BreakRow) (f : ℕ → ℤ) (a : ℕ) → ((i : ℕ) → i < length rows → f (a + i) ≡ (get_or rows i no_break).duration)
    → total_by f (range_with_len a (length rows)) ≡ total_duration rows
sum_durations [] f a h = refl
sum_durations (r ∷ rs) f a h =
    ap₂ (λ m n. m +ℤ n) (ap f (omega arith) ∙ h 0 (omega arith)) (sum_durations rs f (a + 1) (λ i lt. ap f (omega arith) ∙ h (suc i) (omega arith)))

-- where all breaks lie inside the arc, the slack carries them all
all_carried : (hop : Hop) (rows : List BreakRow) (plan : Plan)
    → EachIndex rows (λ i. IsTrue (is_inside (one_arc hop rows) plan i 0)) → break_time (one_arc hop rows) plan 0 ≡ total_duration rows
all_carried hop rows plan inside =
    let inner : ℕ → ℤ = λ i. cond (is_inside (one_arc hop rows) plan i 0) (break_at (one_arc hop rows) i).duration (pos 0) in
    sum_durations rows inner 0
    (λ i lt. let same : 0 + i ≡ i = omega arith in ap inner same ∙ ap (λ b. cond b (get_or rows i no_break).duration (pos 0)) (inside i lt))

module _ (hop : Hop) (rows : List BreakRow) (y x : ℤ) where
  over_from_leads : 0 < length rows → HaveDurations rows → Leads hop rows y x → LeadsOver hop rows y x
  over_from_leads some long (plan, rules, begin, end) =
      let left = rules.slacks_left 0 (omega arith) in
      let bounded = rules.slacks_bounded 0 (omega arith) in
      let carries = rules.slacks_carry_breaks 0 (omega arith) in
      let time = all_carried hop rows plan inside in
      let first = and_left (within (pos 0) horizon (cumul plan 0)) true (rules.cumuls_allowed 0 (omega arith)) in
      let second = and_left (within (pos 0) horizon (cumul plan 1)) true (rules.cumuls_allowed 1 (omega arith)) in
      record {
        begin = subst (λ n. IsTrue (within (pos 0) horizon n)) begin first;
        «end» = subst (λ n. IsTrue (within (pos 0) horizon n)) end second;
        carried = omega (arith, ints, left, carries, time, begin, end);
        bounded = omega (arith, ints, left, bounded, begin, end);
        chain = chain_from_starts rows plan.breaks (y +ℤ hop.visit) x
            (record { one_of_each = rules.start_of_each_break; in_range = rules.breaks_in_range; in_order = rules.breaks_in_order })
            (λ lt. after 0 lt) over (let a = after 0 some in let o = over 0 some in let d = first_long rows some long in omega (arith, ints, a, o, d));
      }
    where
      inside : EachIndex rows (λ i. IsTrue (is_inside (one_arc hop rows) plan i 0))
      inside i lt = found (rules.breaks_placed i lt)
        where
          found : IsTrue (false && is_before (one_arc hop rows) plan i) ⊎ IsTrue (false && is_after (one_arc hop rows) plan i)
              ⊎ (k : ℕ) × (k < 1) × IsTrue (is_inside (one_arc hop rows) plan i k) → IsTrue (is_inside (one_arc hop rows) plan i 0)
          found (inl t) = no_false t
          found (inr (inl t)) = no_false t
          found (inr (inr (k, low, t))) = let e : k ≡ 0 = omega (arith, low) in subst (λ n. IsTrue (is_inside (one_arc hop rows) plan i n)) e t

      after : EachIndex rows (λ i. (y +ℤ hop.visit) ≤ℤ break_start plan i)
      after i lt = subst (λ n. (n +ℤ hop.visit) ≤ℤ break_start plan i) begin
          (le_of_test (cumul plan 0 +ℤ hop.visit) (break_start plan i) (and_left (int_le (cumul plan 0 +ℤ hop.visit) (break_start plan i)) _ (inside i lt)))

      over : EachIndex rows (λ i. break_end (one_arc hop rows) plan i ≤ℤ x)
      over i lt = subst (λ n. break_end (one_arc hop rows) plan i ≤ℤ n)
          end (le_of_test (break_end (one_arc hop rows) plan i) (cumul plan 1)
          (and_right (int_le (cumul plan 0 +ℤ hop.visit) (break_start plan i)) _ (inside i lt)))

      first_long : (rows : List BreakRow) → 0 < length rows → HaveDurations rows → pos 0 ≤ℤ (get_or rows 0 no_break).duration
      first_long [] some h = absurd (omega arith)
      first_long (r ∷ rs) some h = h.0

  leads_from_over : HaveDurations rows → LeadsOver hop rows y x → Leads hop rows y x
  leads_from_over long m = (plan, rules, refl, refl)
    where
      taken : Starts rows (y +ℤ hop.visit) x
      taken = starts_from_chain rows (y +ℤ hop.visit) x long m.chain

      plan : Plan
      plan = record { cumuls = y ∷ x ∷ []; slacks = ((x -ℤ y) -ℤ hop.transit) ∷ []; breaks = taken.starts }

      inside : EachIndex rows (λ i. IsTrue (is_inside (one_arc hop rows) plan i 0))
      inside i lt = and_both (int_le (y +ℤ hop.visit) (break_start plan i)) _
          (test_of_le (y +ℤ hop.visit) (break_start plan i) (taken.after i lt)) (test_of_le (break_end (one_arc hop rows) plan i) x (taken.over i lt))

      allowed : EachIndex (one_arc hop rows).allowed (λ k. IsTrue (allows (one_arc hop rows) k (cumul plan k)))
      allowed zero lt = and_both _ _ m.begin refl
      allowed (suc zero) lt = and_both _ _ m.«end» refl
      allowed (suc (suc k)) lt = absurd (omega arith)

      left : EachIndex (one_arc hop rows).arcs (λ k. slack plan k ≡ (cumul plan (suc k) -ℤ cumul plan k) -ℤ (arc_at (one_arc hop rows) k).transit)
      left zero lt = refl
      left (suc k) lt = absurd (omega arith)

      total_low : (rows : List BreakRow) → HaveDurations rows → pos 0 ≤ℤ total_duration rows
      total_low [] h = omega (arith, ints)
      total_low (r ∷ rs) h = let n = total_low rs h.1 in omega (arith, ints, h.0, n)

      bounded : EachIndex (one_arc hop rows).arcs (λ k. (pos 0 ≤ℤ slack plan k) × (slack plan k ≤ℤ hop.slack))
      bounded zero lt = (let n = total_low rows long in omega (arith, ints, n, m.carried), m.bounded)
      bounded (suc k) lt = absurd (omega arith)

      carried : EachIndex (one_arc hop rows).arcs (λ k. break_time (one_arc hop rows) plan k ≤ℤ slack plan k)
      carried zero lt = subst (λ n. n ≤ℤ ((x -ℤ y) -ℤ hop.transit)) (sym (all_carried hop rows plan inside)) m.carried
      carried (suc k) lt = absurd (omega arith)

      rules : KeepsRules no_side (one_arc hop rows) plan
      rules = record {
        cumul_of_each_stop = refl;
        slack_of_each_arc = refl;
        start_of_each_break = taken.are.one_of_each;
        cumuls_allowed = allowed;
        slacks_left = left;
        slacks_bounded = bounded;
        breaks_in_range = taken.are.in_range;
        breaks_in_order = taken.are.in_order;
        breaks_placed = λ i lt. inr (inr (0, omega arith, inside i lt));
        slacks_carry_breaks = carried;
      }

-- a cumul lies in its range
cumul_range : (x : ℤ) → IsTrue (within (pos 0) horizon x) → (pos 0 ≤ℤ x) × (x ≤ℤ horizon)
cumul_range x is = within_is (pos 0) horizon x is

module _ (hop : Hop) (rows : List BreakRow) (chain : Chain) (sound : IsSoundHop hop)
    (valid : All IsBreak rows) (some : 0 < length rows) (of : IsChainOf rows chain) where
  -- what an arc over the breaks of a chain asks, in numbers
  asks : (y x : ℤ) → Leads hop rows y x → LeadsOver hop rows y x × HasRoom rows (y +ℤ hop.visit) x
  asks y x way =
      let long = durations_from_rows rows valid in
      let m = over_from_leads hop rows y x some long way in
      let near = cumul_range x m.«end» in
      (m, room_from_chain rows (y +ℤ hop.visit) x long (omega (arith, ints, near)) (omega (arith, ints, near)) m.chain)

  pub closed : (HasWay hop chain → ⊥) → LeadsNowhere hop rows
  closed shut y x way =
      let both = asks y x way in
      let m = both.0 in
      let room = both.1 in
      let first = cumul_range y m.begin in
      let last = cumul_range x m.«end» in
      shut (record {
        in_order = omega (arith, ints, clamps, m.carried, m.bounded, room.room, of.total_is);
        until = omega (arith, ints, first, room.in_time, of.latest_is);
        from = omega (arith, ints, last, room.over, of.first_end_is);
      })

  pub passage : CanBeginInTime rows → HasWay hop chain → (p : Passage) → IsOver hop chain p → IsPassage hop rows p
  passage can way p is = record { open_way = open_way; exact = λ y x. (there y x, back_to y x) }
    where
      open_way : IsOpen p
      open_way = record {
        in_order = omega (arith, ints, is.least, is.greatest, way.in_order);
        near_least = omega (arith, ints, clamps, is.least, of.small.total_low, sound.visit.at_least);
        near_greatest = omega (arith, ints, is.greatest, sound.transit.at_most, sound.slack.at_most);
        until_low = omega (arith, ints, clamps, is.until, way.until);
        until_high = omega (arith, ints, clamps, is.until);
        from_low = omega (arith, ints, clamps, is.from);
        from_high = omega (arith, ints, clamps, is.from, way.from);
      }

      there : (y x : ℤ) → Leads hop rows y x → IsTrue (within (pos 0) horizon y) × IsTrue (within (pos 0) horizon x) × MeetsPassage p y x
      there y x leads =
          let both = asks y x leads in
          let m = both.0 in
          let room = both.1 in
          let first = cumul_range y m.begin in
          let last = cumul_range x m.«end» in (
            m.begin,
            m.«end»,
            record {
              until = omega (arith, ints, clamps, is.until, of.latest_is, room.in_time, first);
              from = omega (arith, ints, clamps, is.from, of.first_end_is, room.over, last);
              least = omega (arith, ints, clamps, is.least, of.total_is, room.room, m.carried);
              greatest = omega (arith, ints, is.greatest, m.bounded);
            },
          )

      back_to : (y x : ℤ) → IsTrue (within (pos 0) horizon y) × IsTrue (within (pos 0) horizon x) × MeetsPassage p y x → Leads hop rows y x
      back_to y x (begin, end, m) =
          let long = durations_from_rows rows valid in
          leads_from_over hop rows y x long (record {
            begin = begin;
            «end» = end;
            carried = omega (arith, ints, clamps, is.least, of.total_is, m.least);
            bounded = omega (arith, ints, is.greatest, m.greatest);
            chain = chain_from_room rows (y +ℤ hop.visit) x long (record {
              can_begin = can;
              in_time = omega (arith, ints, clamps, is.until, of.latest_is, m.until);
              room = omega (arith, ints, clamps, is.least, of.total_is, m.least);
              over = omega (arith, ints, clamps, is.from, of.first_end_is, m.from);
            });
          })

-- breaks that cannot be taken one after another lead nowhere
pub no_chain : (hop : Hop) (rows : List BreakRow) → All IsBreak rows → 0 < length rows → (CanBeginInTime rows → ⊥) → LeadsNowhere hop rows
no_chain hop rows valid some never y x way =
    let long = durations_from_rows rows valid in
    let m = over_from_leads hop rows y x some long way in
    let near = cumul_range x m.«end» in
    never (room_from_chain rows (y +ℤ hop.visit) x long (omega (arith, ints, near)) (omega (arith, ints, near)) m.chain).can_begin
