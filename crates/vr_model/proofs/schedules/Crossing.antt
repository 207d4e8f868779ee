-- One arc more.
use Rattle.std.proofs.Common.{◌≡◌, ℕ, suc, ◌+◌, ◌≤◌, true, false, length, sym, ◌∙◌, ap, subst, arith}
use Rattle.std.specs.Prelude.{ℤ, pos, ◌≤ℤ◌}
use Rattle.std.proofs.lemmas.List.{take-take}
use Rattle.vr_model.specs.schedules.Lines.{Line}
use Rattle.vr_model.specs.schedules.Schedules.{before_only, KeepsRules, IsReached, front, cumul}
use Rattle.vr_model.specs.schedules.SoundLines.{IsSound}
use Rattle.vr_model.specs.schedules.Levels.{Crosses, ReachedByCrossing}
use Rattle.vr_model.proofs.schedules.LineParts.{arc_front, break_front, arcs_front, stops_front, breaks_front}
use Rattle.vr_model.proofs.schedules.Halves.{front_plan, back_plan, halves_of, cumul_front, cumul_back}
use Rattle.vr_model.proofs.schedules.Joining.{joined, joined_rules, cumul_late}

front_sound : (line : Line) → IsSound line → (k b : ℕ) → k ≤ length line.arcs → b ≤ length line.breaks → IsSound (front line k b)
front_sound line sound k b in_line few =
    let n = arcs_front line k b in_line in
    let m = breaks_front line k b few in
    let s = sound.stops in
    let t = stops_front line k b (omega (arith, s, in_line)) in
    record {
      stops = omega (arith, t, n);
      visits = λ i h. subst (λ arc. pos 0 ≤ℤ arc.visit) (sym (arc_front line k b i (omega (arith, h, n)))) (sound.visits i (omega (arith, h, n, in_line)));
      durations =
          λ i h. subst (λ row. pos 1 ≤ℤ row.duration) (sym (break_front line k b i (omega (arith, h, m)))) (sound.durations i (omega (arith, h, m, few)));
      forward = λ some i h. subst (λ arc. pos 0 ≤ℤ arc.transit) (sym (arc_front line k b i (omega (arith, h, n))))
          (sound.forward (omega (arith, some, m, few)) i (omega (arith, h, n, in_line)));
    }

front_front : (line : Line) (k a b : ℕ) → a ≤ b → front (front line (suc k) b) k a ≡ front line k a
front_front line k a b h = λ t. record {
  allowed = take-take (suc k) (suc (suc k)) line.allowed (omega arith) t;
  arcs = take-take k (suc k) line.arcs (omega arith) t;
  slack_max = line.slack_max;
  breaks = take-take a b line.breaks h t;
}

pub reached_by_crossing : ReachedByCrossing
reached_by_crossing line sound k b in_line few x = (there, onward)
  where
    whole : Line
    whole = front line (suc k) b

    sound_whole : IsSound (front line (suc k) b)
    sound_whole = front_sound line sound (suc k) b in_line few

    arcs : length (front line (suc k) b).arcs ≡ suc k
    arcs = arcs_front line (suc k) b in_line

    breaks : length (front line (suc k) b).breaks ≡ b
    breaks = breaks_front line (suc k) b few

    there : IsReached line (suc k) b x → (a : ℕ) × (a ≤ b) × (y : ℤ) × IsReached line k a y × Crosses line k a b y x
    there r =
        let h = halves_of true false (front line (suc k) b) r.0 sound_whole r.1 k (omega (arith, arcs)) in
        let few_a : h.0 ≤ b = (let l = h.1 in omega (arith, l, breaks)) in
        let z : k + 0 ≡ k = omega arith in let o : k + 1 ≡ suc k = omega arith in (
          h.0,
          few_a,
          cumul r.0 k,
          (
            front_plan r.0 k h.0,
            subst (λ l. KeepsRules before_only l (front_plan r.0 k h.0)) (front_front line k h.0 b few_a) h.2,
            cumul_front (front line (suc k) b) r.0 k h.0 k (omega arith),
          ),
          (
            back_plan r.0 k h.0,
            h.3,
            cumul_back (front line (suc k) b) r.0 k h.0 0 ∙ ap (cumul r.0) z,
            cumul_back (front line (suc k) b) r.0 k h.0 1 ∙ (ap (cumul r.0) o ∙ r.2),
          ),
        )

    onward : (a : ℕ) × (a ≤ b) × (y : ℤ) × IsReached line k a y × Crosses line k a b y x → IsReached line (suc k) b x
    onward m =
        let p = m.3.0 in let q = m.4.0 in
        let rp : KeepsRules before_only (front (front line (suc k) b) k m.0) p = subst (λ l. KeepsRules before_only l p)
        (sym (front_front line k m.0 b m.1)) m.3.1 in
        let few_a : m.0 ≤ length (front line (suc k) b).breaks = (let l = m.1 in omega (arith, l, breaks)) in
        let meet : cumul p k ≡ cumul q 0 = m.3.2 ∙ sym m.4.2 in
        let o : suc k ≡ k + 1 = omega arith in (
          joined p q,
          joined_rules true false (front line (suc k) b) sound_whole k m.0 (omega (arith, arcs)) few_a p q rp m.4.1 meet,
          ap (cumul (joined p q)) o ∙ (cumul_late true false (front line (suc k) b) sound_whole k m.0 (omega (arith, arcs)) few_a p q rp m.4.1 meet 1 ∙ m.4.3),
        )
