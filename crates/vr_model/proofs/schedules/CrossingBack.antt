-- One arc less: from the levels of a stop back to those of the stop before.
use Rattle.std.proofs.Common.{◌≡◌, ℕ, suc, ◌+◌, ◌-◌, ◌≤◌, false, true, length, take, drop, sym, ◌∙◌, ap, subst, arith}
use Rattle.std.specs.Prelude.{ℤ, pos, ◌≤ℤ◌}
use Rattle.std.proofs.lemmas.List.{drop-take, drop-drop}
use Rattle.vr_model.specs.schedules.Lines.{Line}
use Rattle.vr_model.specs.schedules.Schedules.{no_side, after_only, KeepsRules, ReachesEnd, front, back, cumul}
use Rattle.vr_model.specs.schedules.SoundLines.{IsSound}
use Rattle.vr_model.specs.schedules.Levels.{Crosses, EndReachedByCrossing}
use Rattle.vr_model.proofs.schedules.LineParts.{arc_back, break_back, arcs_back, stops_back, breaks_back}
use Rattle.vr_model.proofs.schedules.Halves.{front_plan, back_plan, halves_of, cumul_front, cumul_back}
use Rattle.vr_model.proofs.schedules.Joining.{joined, joined_rules, cumul_early}

back_sound : (line : Line) → IsSound line → (k b : ℕ) → k ≤ length line.arcs → b ≤ length line.breaks → IsSound (back line k b)
back_sound line sound k b in_line few =
    let n = arcs_back line k b in
    let m = breaks_back line k b in
    let s = sound.stops in
    let t = stops_back line k b in
    record {
      stops = omega (arith, s, t, n, in_line);
      visits = λ i h. subst (λ arc. pos 0 ≤ℤ arc.visit) (sym (arc_back line k b i)) (sound.visits (k + i) (omega (arith, h, n)));
      durations = λ i h. subst (λ row. pos 1 ≤ℤ row.duration) (sym (break_back line k b i)) (sound.durations (b + i) (omega (arith, h, m)));
      forward =
          λ some i h. subst (λ arc. pos 0 ≤ℤ arc.transit) (sym (arc_back line k b i)) (sound.forward (omega (arith, some, m)) (k + i) (omega (arith, h, n)));
    }

-- the first arc of the back of a line, and what follows it
front_back : (line : Line) (k a c : ℕ) → front (back line k a) 1 c ≡ back (front line (suc k) (a + c)) k a
front_back line k a c =
    let e : k + 2 ≡ suc (suc k) = omega arith in
    let f : k + 1 ≡ suc k = omega arith in
    λ t. record {
      allowed = (sym (drop-take k 2 line.allowed) ∙ ap (λ n. drop k (take n line.allowed)) e) t;
      arcs = (sym (drop-take k 1 line.arcs) ∙ ap (λ n. drop k (take n line.arcs)) f) t;
      slack_max = line.slack_max;
      breaks = sym (drop-take a c line.breaks) t;
    }

back_back : (line : Line) (k a c : ℕ) → back (back line k a) 1 c ≡ back line (suc k) (a + c)
back_back line k a c =
    let f : k + 1 ≡ suc k = omega arith in
    λ t. record {
      allowed = (drop-drop 1 k line.allowed ∙ ap (λ n. drop n line.allowed) f) t;
      arcs = (drop-drop 1 k line.arcs ∙ ap (λ n. drop n line.arcs) f) t;
      slack_max = line.slack_max;
      breaks = drop-drop c a line.breaks t;
    }

pub end_reached_by_crossing : EndReachedByCrossing
end_reached_by_crossing line sound k a in_line few y = (there, onward)
  where
    sound_whole : IsSound (back line k a)
    sound_whole = back_sound line sound k a (omega (arith, in_line)) few

    arcs : length (back line k a).arcs ≡ length line.arcs - k
    arcs = arcs_back line k a

    breaks : length (back line k a).breaks ≡ length line.breaks - a
    breaks = breaks_back line k a

    there : ReachesEnd line k a y → (b : ℕ) × (a ≤ b) × (b ≤ length line.breaks) × (x : ℤ) × Crosses line k a b y x × ReachesEnd line (suc k) b x
    there r =
        let h = halves_of false true (back line k a) r.0 sound_whole r.1 1 (omega (arith, arcs, in_line)) in
        let few_h = h.1 in
        let z : 1 + 0 ≡ 1 = omega arith in (
          a + h.0,
          omega arith,
          omega (arith, few_h, breaks, few),
          cumul r.0 1,
          (
            front_plan r.0 1 h.0,
            subst (λ l. KeepsRules no_side l (front_plan r.0 1 h.0)) (front_back line k a h.0) h.2,
            cumul_front (back line k a) r.0 1 h.0 0 (omega arith) ∙ r.2,
            cumul_front (back line k a) r.0 1 h.0 1 (omega arith),
          ),
          (
            back_plan r.0 1 h.0,
            subst (λ l. KeepsRules after_only l (back_plan r.0 1 h.0)) (back_back line k a h.0) h.3,
            cumul_back (back line k a) r.0 1 h.0 0 ∙ ap (cumul r.0) z,
          ),
        )

    onward : (b : ℕ) × (a ≤ b) × (b ≤ length line.breaks) × (x : ℤ) × Crosses line k a b y x × ReachesEnd line (suc k) b x → ReachesEnd line k a y
    onward m =
        let p = m.4.0 in let q = m.5.0 in
        let low = m.1 in let high = m.2 in
        let c : a + (m.0 - a) ≡ m.0 = omega (arith, low) in
        let rp : KeepsRules no_side (front (back line k a) 1 (m.0 - a)) p = subst (λ l. KeepsRules no_side l p)
        (sym (front_back line k a (m.0 - a) ∙ ap (λ n. back (front line (suc k) n) k a) c)) m.4.1 in
        let rq : KeepsRules after_only (back (back line k a) 1 (m.0 - a)) q = subst (λ l. KeepsRules after_only l q)
        (sym (back_back line k a (m.0 - a) ∙ ap (back line (suc k)) c)) m.5.1 in
        let one : 1 ≤ length (back line k a).arcs = omega (arith, arcs, in_line) in
        let few_c : m.0 - a ≤ length (back line k a).breaks = omega (arith, breaks, low, high) in
        let meet : cumul p 1 ≡ cumul q 0 = m.4.3 ∙ sym m.5.2 in (
          joined p q,
          joined_rules false true (back line k a) sound_whole 1 (m.0 - a) one few_c p q rp rq meet,
          cumul_early false true (back line k a) sound_whole 1 (m.0 - a) one few_c p q rp rq meet 0 (omega arith) ∙ m.4.2,
        )
