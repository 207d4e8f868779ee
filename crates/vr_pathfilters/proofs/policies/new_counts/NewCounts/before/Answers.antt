use Rattle.std.proofs.Common.{◌≡◌, ℕ, ◌+◌, ◌-◌, ◌≤◌, length, take, refl, sym, subst, arith}
use Rattle.vr_reach.specs.Spliced.{AreSeams}
use Rattle.vr_pathfilters.specs.declared.policies.counts.Counts.{Counts}
use Rattle.vr_pathfilters.specs.Counted.{pair_counts}
use Rattle.vr_pathfilters.specs.Replaced.{Replaced, replaced_list}
use Rattle.vr_pathfilters.proofs.CountLemmas.{counts_behind, counts_between, deliveries_rise, pickups_rise}
use Rattle.vr_pathfilters.proofs.policies.new_counts.NewCounts.before.Goals as goal

pub returns-then-place-front-2-clause-value : goal.returns-then-place-front-2-clause-value
returns-then-place-front-2-clause-value c =
    let s = c.self.inside in
    let a = c.listed-at_front.result in
    let b = c.between-inside.result in
    let seen = sym c.self.view_is in
    let at_front = subst (λ (r : Replaced). a ≡ pair_counts r.model (take s.front r.old)) seen c.listed-at_front.ensures.value in
    let inside = subst (λ (r : Replaced). b ≡ pair_counts r.model (take (c.args.place - s.front) r.middle)) seen c.between-inside.ensures.value in
    subst (λ (r : Replaced). ◌≡◌ {A = Counts} (record { pickups = a.pickups + b.pickups; deliveries = a.deliveries + b.deliveries })
    (pair_counts r.model (take c.args.place (replaced_list r)))) c.self.view_is
    (counts_between s.node_tables.now s.old.now s.middle.now s.front s.behind c.self.invariant.seams c.args.place a b at_front inside
    (omega (arith, c.if-place-front.false)) (omega (arith, c.if-place-front-2.true)))

-- what was counted before the stretch is among what is counted in all
risen : {seen now : Replaced} → seen ≡ now → AreSeams (length seen.old) seen.front seen.behind → (place : ℕ) {a b e d : Counts}
    → a ≡ pair_counts now.model (take seen.front now.old) → b ≡ pair_counts now.model (take (place - seen.front) now.middle)
    → e ≡ pair_counts now.model (take seen.behind now.old) → d ≡ pair_counts now.model (take (seen.behind + (place - seen.front - length seen.middle)) now.old)
    → (e.pickups ≤ a.pickups + b.pickups + d.pickups) × (e.deliveries ≤ a.deliveries + b.deliveries + d.deliveries)
risen {seen} is seams place {a} {b} {e} {d} at_front inside at_behind past =
    let first : a ≡ pair_counts seen.model (take seen.front seen.old) = subst (λ (r : Replaced). a ≡ pair_counts r.model (take seen.front r.old))
    (sym is) at_front in
    let second : b ≡ pair_counts seen.model (take (place - seen.front) seen.middle) =
    subst (λ (r : Replaced). b ≡ pair_counts r.model (take (place - seen.front) r.middle)) (sym is) inside in
    let third : e ≡ pair_counts seen.model (take seen.behind seen.old) = subst (λ (r : Replaced). e ≡ pair_counts r.model (take seen.behind r.old))
    (sym is) at_behind in
    let last : d ≡ pair_counts seen.model (take (seen.behind + (place - seen.front - length seen.middle)) seen.old) =
    subst (λ (r : Replaced). d ≡ pair_counts r.model (take (seen.behind + (place - seen.front - length seen.middle)) r.old)) (sym is) past in (
      pickups_rise seen.model seen.old seen.middle seen.front seen.behind seams place a b first second _ refl e d third last,
      deliveries_rise seen.model seen.old seen.middle seen.front seen.behind seams place a b first second _ refl e d third last,
    )

pub overflow_sub-result : goal.overflow_sub-result
overflow_sub-result c = (risen c.self.view_is c.self.invariant.seams c.args.place c.listed-at_front.ensures.value
    c.between-inside.ensures.value c.listed-at_behind.ensures.value c.listed-past.ensures.value).0

pub overflow_sub-result-2 : goal.overflow_sub-result-2
overflow_sub-result-2 c = (risen c.self.view_is c.self.invariant.seams c.args.place c.listed-at_front.ensures.value
    c.between-inside.ensures.value c.listed-at_behind.ensures.value c.listed-past.ensures.value).1

pub returns-clause-value : goal.returns-clause-value
returns-clause-value c =
    let s = c.self.inside in
    let a = c.listed-at_front.result in
    let b = c.between-inside.result in
    let e = c.listed-at_behind.result in
    let d = c.listed-past.result in
    let seen = sym c.self.view_is in
    let at_front = subst (λ (r : Replaced). a ≡ pair_counts r.model (take s.front r.old)) seen c.listed-at_front.ensures.value in
    let inside = subst (λ (r : Replaced). b ≡ pair_counts r.model (take (c.args.place - s.front) r.middle)) seen c.between-inside.ensures.value in
    let at_behind = subst (λ (r : Replaced). e ≡ pair_counts r.model (take s.behind r.old)) seen c.listed-at_behind.ensures.value in
    let past = subst (λ (r : Replaced). d ≡ pair_counts r.model (take (s.behind + (c.args.place - s.front - length s.middle.now)) r.old))
    seen c.listed-past.ensures.value in
    subst (λ (r : Replaced). ◌≡◌ {A = Counts}
    (record { pickups = a.pickups + b.pickups + d.pickups - e.pickups; deliveries = a.deliveries + b.deliveries + d.deliveries - e.deliveries })
    (pair_counts r.model (take c.args.place (replaced_list r)))) c.self.view_is
    (counts_behind s.node_tables.now s.old.now s.middle.now s.front s.behind c.self.invariant.seams c.args.place a b at_front inside
    _ refl e d at_behind past
    (omega (arith, c.if-place-front.false)) (omega (arith, c.if-place-front-2.false)))
