-- Two plans that meet at a stop, joined to a schedule.
use Rattle.std.proofs.Common.{◌≡◌, ℕ, zero, suc, ◌+◌, ◌-◌, ◌<◌, ◌≤◌, Bool, true, false, ◌&&◌, ◌++◌, length, drop, refl, sym, ◌∙◌, ap, subst, inl, inr, arith}
use Rattle.std.proofs.Common.{◌⊎◌}
use Rattle.std.specs.Prelude.{ℤ, pos, ◌+ℤ◌, ◌-ℤ◌, ◌≤ℤ◌, int_le, IsTrue, EachIndex}
use Rattle.std.proofs.lemmas.Int.{ints}
use Rattle.std.proofs.lemmas.Bool.{cases_lt}
use Rattle.std.proofs.lemmas.List.{get_or_append_left, get_or-append_right, get_or-drop, length-append, length-drop}
use Rattle.vr_model.specs.tables.Numbers.{number_at}
use Rattle.vr_model.specs.schedules.Lines.{Line}
use Rattle.vr_model.specs.schedules.Schedules.{Plan, sides, KeepsRules, IsFeasible, front, back, cumul, slack, allows, arc_at, break_at, break_start, break_end}
use Rattle.vr_model.specs.schedules.Schedules.{is_before, is_after, is_inside, break_time}
use Rattle.vr_model.specs.schedules.SoundLines.{IsSound}
use Rattle.vr_model.specs.schedules.Levels.{LevelsMeet, HasCumul, LevelsMeetAt, FeasibleWhereLevelsMeet, CumulWhereLevelsMeet}
use Rattle.vr_model.specs.deciding.Testing.{and_left, and_right, le_of_test}
use Rattle.vr_model.proofs.tables.Totals.{sum_range, sum_same, sum_split, sum_shift, sum_nothing}
use Rattle.vr_model.proofs.schedules.LineParts.{by_parts, allows_front, arc_front, break_front, allows_back, arc_back, break_back, arcs_front, stops_front}
use Rattle.vr_model.proofs.schedules.LineParts.{breaks_front, arcs_back, stops_back, breaks_back, ascends_to, inside_starts, inside_ends}
use Rattle.vr_model.proofs.schedules.Halves.{inside_of, time_of, one_time, halves}

-- the first plan, and what follows its last stop in the second
abbrev pub joined : Plan → Plan → Plan
joined p q = record { cumuls = p.cumuls ++ drop 1 q.cumuls; slacks = p.slacks ++ q.slacks; breaks = p.breaks ++ q.breaks }

module _ (before after : Bool) (line : Line) (sound : IsSound line) (k b : ℕ) (in_line : k ≤ length line.arcs) (few : b ≤ length line.breaks) (p q : Plan)
    (rp : KeepsRules (sides before false) (front line k b) p) (rq : KeepsRules (sides false after) (back line k b) q) (meet : cumul p k ≡ cumul q 0) where
  cumuls_p : length p.cumuls ≡ suc k
  cumuls_p = rp.cumul_of_each_stop ∙ stops_front line k b (let n = sound.stops in omega (arith, n, in_line))

  slacks_p : length p.slacks ≡ k
  slacks_p = rp.slack_of_each_arc ∙ arcs_front line k b in_line

  breaks_p : length p.breaks ≡ b
  breaks_p = rp.start_of_each_break ∙ breaks_front line k b few

  cumuls_q : length q.cumuls ≡ length line.allowed - k
  cumuls_q = rq.cumul_of_each_stop ∙ stops_back line k b

  -- ---- what the joined plan has at each place
  pub cumul_early : (i : ℕ) → i < suc k → cumul (joined p q) i ≡ cumul p i
  cumul_early i h = get_or_append_left p.cumuls (drop 1 q.cumuls) (pos 0) i (let n = cumuls_p in omega (arith, h, n))

  pub cumul_late : (m : ℕ) → cumul (joined p q) (k + m) ≡ cumul q m
  cumul_late zero = let e : k + 0 ≡ k = omega arith in ap (cumul (joined p q)) e ∙ (cumul_early k (omega arith) ∙ meet)
  cumul_late (suc m) =
      let e : (k + suc m) - suc k ≡ m = omega arith in
      let f : 1 + m ≡ suc m = omega arith in
      get_or-append_right p.cumuls (drop 1 q.cumuls) (suc k) (k + suc m) (pos 0) cumuls_p (omega arith)
      ∙ (ap (number_at (drop 1 q.cumuls)) e ∙ (get_or-drop 1 q.cumuls m (pos 0) ∙ ap (number_at q.cumuls) f))

  slack_early : (i : ℕ) → i < k → slack (joined p q) i ≡ slack p i
  slack_early i h = get_or_append_left p.slacks q.slacks (pos 0) i (let n = slacks_p in omega (arith, h, n))

  slack_late : (m : ℕ) → slack (joined p q) (k + m) ≡ slack q m
  slack_late m =
      let e : (k + m) - k ≡ m = omega arith in
      get_or-append_right p.slacks q.slacks k (k + m) (pos 0) slacks_p (omega arith) ∙ ap (number_at q.slacks) e

  starts_early : (i : ℕ) → i < b → break_start (joined p q) i ≡ break_start p i
  starts_early i h = get_or_append_left p.breaks q.breaks (pos 0) i (let n = breaks_p in omega (arith, h, n))

  starts_late : (m : ℕ) → break_start (joined p q) (b + m) ≡ break_start q m
  starts_late m =
      let e : (b + m) - b ≡ m = omega arith in
      get_or-append_right p.breaks q.breaks b (b + m) (pos 0) breaks_p (omega arith) ∙ ap (number_at q.breaks) e

  ends_early : (i : ℕ) → i < b → break_end line (joined p q) i ≡ break_end (front line k b) p i
  ends_early i h = λ t. starts_early i h t +ℤ (sym (break_front line k b i h) t).duration

  ends_late : (m : ℕ) → break_end line (joined p q) (b + m) ≡ break_end (back line k b) q m
  ends_late m = λ t. starts_late m t +ℤ (sym (break_back line k b m) t).duration

  next_late : (m : ℕ) → cumul (joined p q) (suc (k + m)) ≡ cumul q (suc m)
  next_late m = let e : suc (k + m) ≡ k + suc m = omega arith in ap (cumul (joined p q)) e ∙ cumul_late (suc m)

  inside_early : (i j : ℕ) → i < b → j < k → is_inside line (joined p q) i j ≡ is_inside (front line k b) p i j
  inside_early i j hi hj = λ t. inside_of (cumul_early j (omega (arith, hj)) t) (sym (arc_front line k b j hj) t)
      (starts_early i hi t) (sym (break_front line k b i hi) t) (cumul_early (suc j) (omega (arith, hj)) t)

  inside_late : (m j : ℕ) → is_inside line (joined p q) (b + m) (k + j) ≡ is_inside (back line k b) q m j
  inside_late m j = λ t. inside_of (cumul_late j t) (sym (arc_back line k b j) t) (starts_late m t) (sym (break_back line k b m) t) (next_late j t)

  -- ---- order
  arcs_p : length (front line k b).arcs ≡ k
  arcs_p = arcs_front line k b in_line

  forward_p : 0 < length line.breaks → EachIndex (front line k b).arcs (λ j. pos 0 ≤ℤ (arc_at (front line k b) j).transit)
  forward_p some j h =
      let n = arcs_p in
      subst (λ arc. pos 0 ≤ℤ arc.transit) (sym (arc_front line k b j (omega (arith, h, n)))) (sound.forward some j (omega (arith, h, n, in_line)))

  forward_q : 0 < length line.breaks → EachIndex (back line k b).arcs (λ j. pos 0 ≤ℤ (arc_at (back line k b) j).transit)
  forward_q some j h =
      let n = arcs_back line k b in
      subst (λ arc. pos 0 ≤ℤ arc.transit) (sym (arc_back line k b j)) (sound.forward some (k + j) (omega (arith, h, n)))

  -- the first breaks end by stop k, and the others start after it
  first_end : (i : ℕ) → i < b → break_end line (joined p q) i ≤ℤ cumul p k
  first_end i h =
      let f = go (rp.breaks_placed i (let n = breaks_front line k b few in omega (arith, h, n))) in
      let e = ends_early i h in
      omega (arith, ints, e, f)
    where
      some : 0 < length line.breaks
      some = omega (arith, h, few)

      go : IsTrue (before && is_before (front line k b) p i) ⊎ IsTrue (false && is_after (front line k b) p i)
          ⊎ (j : ℕ) × (j < length (front line k b).arcs) × IsTrue (is_inside (front line k b) p i j) → break_end (front line k b) p i ≤ℤ cumul p k
      go (inl t) =
          let a = le_of_test (break_end (front line k b) p i) (cumul p 0) (and_right before _ t) in
          let c = ascends_to before false (front line k b) p rp (forward_p some) 0 k (omega arith) (let n = arcs_p in omega (arith, n)) in
          omega (arith, ints, a, c)
      go (inr (inl t)) = absurd (let f : false ≡ true → ⊥ = λ e. Prim.cc in f t)
      go (inr (inr r)) =
          let n = arcs_p in
          let a = inside_ends before false (front line k b) p rp i r.0 r.2 in
          let l = r.1 in
          let c = ascends_to before false (front line k b) p rp (forward_p some) (suc r.0) k (omega (arith, n, l)) (omega (arith, n)) in
          omega (arith, ints, a, c)

  others_start : (m : ℕ) → b + m < length line.breaks → cumul p k ≤ℤ break_start (joined p q) (b + m)
  others_start m h =
      let f = go (rq.breaks_placed m (let n = breaks_back line k b in omega (arith, h, n))) in
      let e = starts_late m in
      let g = meet in
      omega (arith, ints, e, f, g)
    where
      some : 0 < length line.breaks
      some = omega (arith, h)

      go : IsTrue (false && is_before (back line k b) q m) ⊎ IsTrue (after && is_after (back line k b) q m)
          ⊎ (j : ℕ) × (j < length (back line k b).arcs) × IsTrue (is_inside (back line k b) q m j) → cumul q 0 ≤ℤ break_start q m
      go (inl t) = absurd (let f : false ≡ true → ⊥ = λ e. Prim.cc in f t)
      go (inr (inl t)) =
          let a = le_of_test (cumul q (length (back line k b).arcs)) (break_start q m) (and_right after _ t) in
          let c = ascends_to false after (back line k b) q rq (forward_q some) 0 (length (back line k b).arcs) (omega arith) (omega arith) in
          omega (arith, ints, a, c)
      go (inr (inr r)) = let a = inside_starts false after (back line k b) q rq m r.0 r.2 in let l = r.1 in let n = arcs_back line k b in
          let v = sound.visits (k + r.0) (omega (arith, l, n)) in let u = arc_back line k b r.0 in
          let w : pos 0 ≤ℤ (arc_at (back line k b) r.0).visit = subst (λ arc. pos 0 ≤ℤ arc.visit) (sym u) v in
          let c = ascends_to false after (back line k b) q rq (forward_q some) 0 r.0 (omega arith) (omega (arith, l)) in omega (arith, ints, a, w, c)

  -- a break of the one half is inside no arc of the other
  clash : (t : Bool) → (t ≡ true → ⊥) → t ≡ false
  clash true h = absurd (h refl)
  clash false h = refl

  other_not_early : (m j : ℕ) → b + m < length line.breaks → j < k → is_inside line (joined p q) (b + m) j ≡ false
  other_not_early m j h hj = clash (is_inside line (joined p q) (b + m) j) (λ t.
      let a = le_of_test (break_end line (joined p q) (b + m)) (cumul (joined p q) (suc j))
      (and_right (int_le (cumul (joined p q) j +ℤ (arc_at line j).visit) (break_start (joined p q) (b + m))) _ t) in
      let e = cumul_early (suc j) (omega (arith, hj)) in
      let c = ascends_to before false (front line k b) p rp (forward_p (omega (arith, h))) (suc j) k hj (let n = arcs_p in omega (arith, n)) in
      let s = others_start m h in let d = sound.durations (b + m) h in omega (arith, ints, a, e, c, s, d))

  first_not_late : (i j : ℕ) → i < b → k + j < length line.arcs → is_inside line (joined p q) i (k + j) ≡ false
  first_not_late i j h hj = clash (is_inside line (joined p q) i (k + j)) (λ t.
      let a = le_of_test (cumul (joined p q) (k + j) +ℤ (arc_at line (k + j)).visit) (break_start (joined p q) i)
      (and_left (int_le (cumul (joined p q) (k + j) +ℤ (arc_at line (k + j)).visit) (break_start (joined p q) i)) _ t) in
      let v = sound.visits (k + j) hj in
      let e = cumul_late j in
      let c = ascends_to false after (back line k b) q rq (forward_q (omega (arith, h, few)))
      0 j (omega arith) (let n = arcs_back line k b in omega (arith, n, hj)) in
      let s = first_end i h in let g = meet in let d = sound.durations i (omega (arith, h, few)) in omega (arith, ints, a, v, e, c, s, g, d))

  -- ---- the time of breaks inside an arc
  split_time : (j : ℕ) → break_time line (joined p q) j
      ≡ sum_range (one_time line (joined p q) j) 0 b +ℤ sum_range (λ i. one_time line (joined p q) j (b + i)) 0 (length line.breaks - b)
  split_time j =
      let m : length line.breaks ≡ b + (length line.breaks - b) = omega (arith, few) in
      let z : 0 + b ≡ b + 0 = omega arith in
      ap (λ n. sum_range (one_time line (joined p q) j) 0 n) m ∙ (sum_split (one_time line (joined p q) j) 0 b (length line.breaks - b)
      ∙ ap (λ x. sum_range (one_time line (joined p q) j) 0 b +ℤ x)
      (ap (λ c. sum_range (one_time line (joined p q) j) c (length line.breaks - b)) z
      ∙ sum_shift (one_time line (joined p q) j) b 0 (length line.breaks - b)))

  time_early : (j : ℕ) → j < k → break_time line (joined p q) j ≡ break_time (front line k b) p j
  time_early j hj =
      let n : length (front line k b).breaks ≡ b = breaks_front line k b few in
      let same = sum_same (one_time line (joined p q) j) (one_time (front line k b) p j) 0 b
      (λ i low high. let hi : i < b = omega (arith, high) in λ t. time_of (inside_early i j hi hj t) (sym (break_front line k b i hi) t)) in
      let none = sum_nothing (λ i. one_time line (joined p q) j (b + i)) 0 (length line.breaks - b)
      (λ i low high. ap (λ t. time_of t (break_at line (b + i))) (other_not_early i j (omega (arith, high)) hj)) in
      let e : break_time (front line k b) p j ≡ sum_range (one_time (front line k b) p j) 0 b = ap (λ m. sum_range (one_time (front line k b) p j) 0 m) n in
      let f = split_time j in omega (arith, ints, same, none, e, f)

  time_late : (j : ℕ) → k + j < length line.arcs → break_time line (joined p q) (k + j) ≡ break_time (back line k b) q j
  time_late j hj =
      let n : length (back line k b).breaks ≡ length line.breaks - b = breaks_back line k b in
      let none = sum_nothing (one_time line (joined p q) (k + j)) 0 b
      (λ i low high. ap (λ t. time_of t (break_at line i)) (first_not_late i j (omega (arith, high)) hj)) in
      let same = sum_same (λ i. one_time line (joined p q) (k + j) (b + i)) (one_time (back line k b) q j) 0
      (length line.breaks - b) (λ i low high. λ t. time_of (inside_late i j t) (sym (break_back line k b i) t)) in
      let e : break_time (back line k b) q j ≡ sum_range (one_time (back line k b) q j) 0 (length line.breaks - b) =
      ap (λ m. sum_range (one_time (back line k b) q j) 0 m) n in
      let f = split_time (k + j) in omega (arith, ints, none, same, e, f)

  -- ---- the joined plan is a schedule
  front_arc : (j : ℕ) → j < k → j < length (front line k b).arcs
  front_arc j h = let n = arcs_p in omega (arith, h, n)

  back_arc : (m : ℕ) → k + m < length line.arcs → m < length (back line k b).arcs
  back_arc m h = let n = arcs_back line k b in omega (arith, h, n)

  front_break : (i : ℕ) → i < b → i < length (front line k b).breaks
  front_break i h = let n = breaks_front line k b few in omega (arith, h, n)

  back_break : (m : ℕ) → b + m < length line.breaks → m < length (back line k b).breaks
  back_break m h = let n = breaks_back line k b in omega (arith, h, n)

  abbrev Placed : ℕ → Type 0
  Placed i = IsTrue (before && is_before line (joined p q) i) ⊎ IsTrue (after && is_after line (joined p q) i)
      ⊎ (j : ℕ) × (j < length line.arcs) × IsTrue (is_inside line (joined p q) i j)

  placed_early : (i : ℕ) → i < b → Placed i
  placed_early i h = go (rp.breaks_placed i (front_break i h))
    where
      go : IsTrue (before && is_before (front line k b) p i) ⊎ IsTrue (false && is_after (front line k b) p i)
          ⊎ (j : ℕ) × (j < length (front line k b).arcs) × IsTrue (is_inside (front line k b) p i j) → Placed i
      go (inl t) = inl ((λ r. before && int_le (ends_early i h r) (cumul_early 0 (omega arith) r)) ∙ t)
      go (inr (inl t)) = absurd (let f : false ≡ true → ⊥ = λ e. Prim.cc in f t)
      go (inr (inr r)) = let l = r.1 in let n = arcs_p in inr (inr (r.0, omega (arith, l, n, in_line), inside_early i r.0 h (omega (arith, l, n)) ∙ r.2))

  placed_late : (m : ℕ) → b + m < length line.breaks → Placed (b + m)
  placed_late m h = go (rq.breaks_placed m (back_break m h))
    where
      last : cumul (joined p q) (length line.arcs) ≡ cumul q (length (back line k b).arcs)
      last =
          let n = arcs_back line k b in
          let e : length line.arcs ≡ k + length (back line k b).arcs = omega (arith, n, in_line) in
          ap (cumul (joined p q)) e ∙ cumul_late (length (back line k b).arcs)

      go : IsTrue (false && is_before (back line k b) q m) ⊎ IsTrue (after && is_after (back line k b) q m)
          ⊎ (j : ℕ) × (j < length (back line k b).arcs) × IsTrue (is_inside (back line k b) q m j) → Placed (b + m)
      go (inl t) = absurd (let f : false ≡ true → ⊥ = λ e. Prim.cc in f t)
      go (inr (inl t)) = inr (inl ((λ r. after && int_le (last r) (starts_late m r)) ∙ t))
      go (inr (inr r)) = let l = r.1 in let n = arcs_back line k b in inr (inr (k + r.0, omega (arith, l, n), inside_late m r.0 ∙ r.2))

  in_order : (i : ℕ) → suc i < length line.breaks → break_end line (joined p q) i ≤ℤ break_start (joined p q) (suc i)
  in_order i h = elim (cases_lt (suc i) b) [
    | inl l ↦ (let e = ends_early i (omega (arith, l)) in
        let f = starts_early (suc i) l in
        let o = rp.breaks_in_order i (front_break (suc i) l) in
        omega (arith, ints, e, f, o))
    | inr l ↦ elim (cases_lt i b) [
      | inl seam ↦ (let e : b + 0 ≡ suc i = omega (arith, l, seam) in let a = first_end i seam in
          let s : cumul p k ≤ℤ break_start (joined p q) (suc i) = subst (λ n. cumul p k ≤ℤ break_start (joined p q) n)
          e (others_start 0 (omega (arith, h, l, seam))) in
          omega (arith, ints, a, s))
      | inr late ↦ (let m : b + (i - b) ≡ i = omega (arith, late) in let m' : b + suc (i - b) ≡ suc i = omega (arith, late) in
          let e : break_end line (joined p q) i ≡ break_end (back line k b) q (i - b) = ap (break_end line (joined p q)) (sym m) ∙ ends_late (i - b) in
          let f : break_start (joined p q) (suc i) ≡ break_start q (suc (i - b)) = ap (break_start (joined p q)) (sym m') ∙ starts_late (suc (i - b)) in
          let o = rq.breaks_in_order (i - b) (back_break (suc (i - b)) (omega (arith, h, late))) in omega (arith, ints, e, f, o))
    ]
  ]

  pub joined_rules : KeepsRules (sides before after) line (joined p q)
  joined_rules = record {
    cumul_of_each_stop = length-append p.cumuls (drop 1 q.cumuls)
        ∙ (let a = cumuls_p in let c = length-drop 1 q.cumuls in let d = cumuls_q in let n = sound.stops in omega (arith, a, c, d, n, in_line));
    slack_of_each_arc = length-append p.slacks q.slacks
        ∙ (let a = slacks_p in let c = rq.slack_of_each_arc in let d = arcs_back line k b in omega (arith, a, c, d, in_line));
    start_of_each_break = length-append p.breaks q.breaks
        ∙ (let a = breaks_p in let c = rq.start_of_each_break in let d = breaks_back line k b in omega (arith, a, c, d, few));
    cumuls_allowed = by_parts k (length line.allowed) (λ j. IsTrue (allows line j (cumul (joined p q) j)))
        (λ j h. sym (allows_front line k b j (cumul (joined p q) j) (omega (arith, h))) ∙ (ap (allows (front line k b) j) (cumul_early j (omega (arith, h)))
        ∙ rp.cumuls_allowed j (let n = stops_front line k b (let m = sound.stops in omega (arith, m, in_line)) in omega (arith, h, n))))
        (λ m h. sym (allows_back line k b m (cumul (joined p q) (k + m)))
        ∙ (ap (allows (back line k b) m) (cumul_late m) ∙ rq.cumuls_allowed m (let n = stops_back line k b in omega (arith, h, n))));
    slacks_left = by_parts k (length line.arcs) (λ j. slack (joined p q) j ≡ (cumul (joined p q) (suc j) -ℤ cumul (joined p q) j) -ℤ (arc_at line j).transit)
        (λ j h. slack_early j h
        ∙ (rp.slacks_left j (front_arc j h)
        ∙ sym (λ t. (cumul_early (suc j) (omega (arith, h)) t -ℤ cumul_early j (omega (arith, h)) t) -ℤ (sym (arc_front line k b j h) t).transit)))
        (λ m h. slack_late m ∙ (rq.slacks_left m (back_arc m h) ∙ sym (λ t. (next_late m t -ℤ cumul_late m t) -ℤ (sym (arc_back line k b m) t).transit)));
    slacks_bounded = by_parts k (length line.arcs) (λ j. (pos 0 ≤ℤ slack (joined p q) j) × (slack (joined p q) j ≤ℤ line.slack_max))
        (λ j h. let e = slack_early j h in let r = rp.slacks_bounded j (front_arc j h) in (omega (arith, ints, e, r.0), omega (arith, ints, e, r.1)))
        (λ m h. let e = slack_late m in let r = rq.slacks_bounded m (back_arc m h) in (omega (arith, ints, e, r.0), omega (arith, ints, e, r.1)));
    breaks_in_range =
        by_parts b (length line.breaks) (λ i. ((break_at line i).from ≤ℤ break_start (joined p q) i) × (break_start (joined p q) i ≤ℤ (break_at line i).to))
        (λ i h. let e = starts_early i h in let r = rp.breaks_in_range i (front_break i h) in (
          subst (λ row. row.from ≤ℤ break_start (joined p q) i) (break_front line k b i h) (omega (arith, ints, e, r.0)),
          subst (λ row. break_start (joined p q) i ≤ℤ row.to) (break_front line k b i h) (omega (arith, ints, e, r.1)),
        ))
        (λ m h. let e = starts_late m in let r = rq.breaks_in_range m (back_break m h) in (
          subst (λ row. row.from ≤ℤ break_start (joined p q) (b + m)) (break_back line k b m) (omega (arith, ints, e, r.0)),
          subst (λ row. break_start (joined p q) (b + m) ≤ℤ row.to) (break_back line k b m) (omega (arith, ints, e, r.1)),
        ));
    breaks_in_order = in_order;
    breaks_placed = by_parts b (length line.breaks) Placed placed_early placed_late;
    slacks_carry_breaks = by_parts k (length line.arcs) (λ j. break_time line (joined p q) j ≤ℤ slack (joined p q) j)
        (λ j h. let t = time_early j h in let e = slack_early j h in let c = rp.slacks_carry_breaks j (front_arc j h) in omega (arith, ints, t, e, c))
        (λ m h. let t = time_late m h in let e = slack_late m in let c = rq.slacks_carry_breaks m (back_arc m h) in omega (arith, ints, t, e, c));
  }

pub feasible_meets : (line : Line) → IsSound line → (k : ℕ) → k ≤ length line.arcs → IsFeasible line → LevelsMeet line k
feasible_meets line sound k in_line f = let r = halves true true line f.0 sound f.1 k in_line in (r.0, r.1, cumul f.0 k, r.2, r.3)

pub meets_feasible : (line : Line) → IsSound line → (k : ℕ) → k ≤ length line.arcs → LevelsMeet line k → IsFeasible line
meets_feasible line sound k in_line m = (joined m.3.0 m.4.0, joined_rules true true line sound k m.0 in_line m.1 m.3.0 m.4.0 m.3.1 m.4.1 (m.3.2 ∙ sym m.4.2))

pub passes_meets : (line : Line) → IsSound line → (k : ℕ) (x : ℤ) → k ≤ length line.arcs → HasCumul line k x → LevelsMeetAt line k x
passes_meets line sound k x in_line f =
    let r = halves true true line f.0 sound f.1 k in_line in
    subst (LevelsMeetAt line k) f.2 (r.0, r.1, r.2, r.3)

pub meets_passes : (line : Line) → IsSound line → (k : ℕ) (x : ℤ) → k ≤ length line.arcs → LevelsMeetAt line k x → HasCumul line k x
meets_passes line sound k x in_line m = (
  joined m.2.0 m.3.0,
  joined_rules true true line sound k m.0 in_line m.1 m.2.0 m.3.0 m.2.1 m.3.1 (m.2.2 ∙ sym m.3.2),
  cumul_early true true line sound k m.0 in_line m.1 m.2.0 m.3.0 m.2.1 m.3.1 (m.2.2 ∙ sym m.3.2) k (omega arith) ∙ m.2.2,
)

pub feasible_where_levels_meet : FeasibleWhereLevelsMeet
feasible_where_levels_meet line sound k in_line = (feasible_meets line sound k in_line, meets_feasible line sound k in_line)

pub cumul_where_levels_meet : CumulWhereLevelsMeet
cumul_where_levels_meet line sound k in_line x = (passes_meets line sound k x in_line, meets_passes line sound k x in_line)
