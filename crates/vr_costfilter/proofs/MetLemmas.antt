-- Where a walk back along the front of a list meets a floor that is kept, and what is gone from there.
use Rattle.std.proofs.Common.{◌≡◌, ◌∙◌, ◌+◌, ◌<◌, ◌≤◌, ◌++◌, ℕ, zero, suc, List, [], ◌∷◌, Some, length, take, drop, refl, ap, ap₂, sym, subst, arith}
use Rattle.std.specs.Prelude.{ℤ, pos, ◌+ℤ◌, slice_index_or, Option}
use Rattle.std.proofs.lemmas.Int.{ints}
use Rattle.std.proofs.lemmas.List.{get_or-drop, get_or-take, get_or_default, length-take-le, map-append, take-append-drop, take-map, take_more}
use Rattle.vr_model.specs.declared.records.Model.{Model}
use Rattle.vr_costfilter.specs.Floors.{before, end_step, first_step_or, AreAimed, IsStep, WentBack}
use Rattle.vr_costfilter.specs.Steps.{AreAllStages, IsKeptLead, IsLeadAlong, IsOutsetOf}
use Rattle.vr_costfilter.specs.Runs.{Runs}
use Rattle.vr_costfilter.specs.Stages.{along, paid_more, setting_out, IsStageOf}
use Rattle.vr_costfilter.specs.declared.guides.Stage.{Stage}
use Rattle.vr_costfilter.specs.declared.steps.Lead.{Lead}
use Rattle.vr_costfilter.specs.declared.steps.Outset.{Outset}
use Rattle.vr_costfilter.specs.declared.trails.Step.{Step}
use Rattle.vr_costfilter.proofs.FloorLemmas.{aimed-append, aimed-cons, aimed-left, aimed-none, before-had, first-append, many-steps, visit-step}
use Rattle.vr_costfilter.proofs.KeptCumulLemmas.{kept-out}
use Rattle.vr_costfilter.proofs.StageLemmas.{along-append, paced, paid-no-more}

-- a front of a longer front, and what is left of that one
pub front-split : {A : Type 0} (m front : ℕ) (xs : List A) → m ≤ front → take m xs ++ drop m (take front xs) ≡ take front xs
front-split zero front xs le = refl
front-split (suc m) zero xs le = absurd (omega (arith, le))
front-split (suc m) (suc front) [] le = refl
front-split (suc m) (suc front) (x ∷ xs) le = ap (λ l. x ∷ l) (front-split m front xs (omega (arith, le)))

step-is : (a b : Step) → a.node ≡ b.node → a.floor ≡ b.floor → a ≡ b
step-is a b node floor = ap₂ (λ (n : ℕ) (f : ℤ). (let s : Step = record { node = n; floor = f } in s)) node floor

module _ (model : Model) (d v : ℕ) (runs : Runs) (list : List ℕ) (steps : List Step)
    (stages : List Stage) (are : AreAllStages model d v runs list steps stages) where
  abbrev end : Step
  end = end_step model v runs

  -- the kept steps of a front are so before another step, where the last one of them is
  kept-front : (i : ℕ) (first step : Step) → i < length steps
      → before model d v runs (slice_index_or steps i (end_step model v runs)).node first ≡ Some step
      → step.floor ≡ (slice_index_or steps i (end_step model v runs)).floor
      → AreAimed model d v runs (take (i + 1) steps) first
  kept-front i first step low e floor =
      let last : Step = slice_index_or steps i end in
      let same = step-is step last (before-had model d v runs last.node first step e).node_is floor in
      let here : before model d v runs last.node first ≡ Some last = e ∙ ap (λ (s : Step). Some s) same in
      let all = subst (λ l. AreAimed model d v runs l end) (sym (take-append-drop i steps)) are.steps_are.aimed in
      let ahead = aimed-left model d v runs (take i steps) (drop i steps) end all in
      let next : first_step_or (drop i steps) end ≡ last = get_or-drop i steps 0 end
      ∙ ap (λ n. slice_index_or steps n end) (let e : i + 0 ≡ i = omega arith in e) in
      subst (λ l. AreAimed model d v runs l first) (sym (take_more steps i end low))
      (aimed-append model d v runs (take i steps) (last ∷ []) first (subst (AreAimed model d v runs (take i steps)) next ahead)
      (aimed-cons model d v runs last [] first here (aimed-none model d v runs first)))

  -- a floor is as kept at visit i of the front
  pub led-kept : (front i : ℕ) (next first step lead : Step) (old new : List Step) → i < front → front ≤ length list
      → WentBack model d v runs (drop (i + 1) (take front list)) next old new first
      → before model d v runs (slice_index_or steps i (end_step model v runs)).node first ≡ Some step
      → step.floor ≡ (slice_index_or steps i (end_step model v runs)).floor
      → lead ≡ slice_index_or steps 0 (end_step model v runs)
      → IsLeadAlong model d v runs steps (take front list) next old new (record { place = i + 1; first = lead })
  led-kept front i next first step lead old new low le w e floor is =
      let many = many-steps model d v runs list steps are.steps_are in
      let known : i < length steps = omega (arith, low, le, many) in
      let begins : 0 < length steps = omega (arith, known) in
      record {
        steps = w.steps;
        place = (let n = length-take-le front list le in omega (arith, n, low));
        nodes_are = map-append (λ (s : Step). s.node) (take (i + 1) steps) w.steps
            ∙ ap₂ (λ (xs ys : List ℕ). xs ++ ys) (sym (take-map (λ (s : Step). s.node) (i + 1) steps) ∙ ap (take (i + 1)) are.steps_are.nodes_are) w.nodes_are
            ∙ front-split (i + 1) front list (omega (arith, low));
        aimed = aimed-append model d v runs (take (i + 1) steps) w.steps next
            (subst (AreAimed model d v runs (take (i + 1) steps)) w.first_is (kept-front i first step known e floor)) w.aimed;
        known = w.known;
        trail = w.trail;
        first_is = is ∙ sym (first-append (take (i + 1) steps) w.steps next
            ∙ get_or-take (i + 1) steps 0 (first_step_or w.steps next) (omega arith) ∙ get_or_default steps 0 (first_step_or w.steps next) end begins);
        kept_first = λ some other. is ∙ get_or_default steps 0 end other begins;
        range = subst (IsStep model) (sym is) (visit-step model (slice_index_or steps 0 end) (are.known 0 end begins));
      }

  -- the stage that is kept behind the kept steps of a lead
  pub met-kept : (lead : Lead) (met : Outset) (other : Stage) → 0 < lead.place → lead.place ≤ length list
      → IsKeptLead steps lead → met.stage ≡ slice_index_or stages lead.place other
      → met.start ≡ (slice_index_or stages 0 other).cumul → met.more ≡ pos 0
      → IsStageOf model 1002 met.stage → IsOutsetOf model d v runs runs.start steps lead met
  met-kept lead met other some le kept stage start more range = record {
    first = slice_index_or stages 0 other;
    out = ap (setting_out model d v runs) (kept some end) ∙ kept-out model d v runs list steps stages are other;
    paced = record {
      start = start;
      gone = ap (λ o. along model d v runs o (take lead.place steps)) (sym (kept-out model d v runs list steps stages are other))
          ∙ are.stages_are.each lead.place other le ∙ ap (λ (s : Stage). Some s) (sym stage ∙ paid-no-more model d v runs met.stage met.more more);
      range = range;
      more = record { at_least = omega (arith, ints, more); at_most = omega (arith, ints, more) };
    };
  }

  -- a vehicle that comes to a cumul that is kept at visit k has gone on from there as it is kept
  pub paced-kept : (out gone : Stage) (k place : ℕ) (other : Stage) → k ≤ place
      → place ≤ length list → along model d v runs (Some out) (take k steps) ≡ Some gone
      → gone.at ≡ (slice_index_or stages k other).at → gone.cumul ≡ (slice_index_or stages k other).cumul
      → (z : ℤ) → gone.soft ≡ (slice_index_or stages k other).soft +ℤ z
      → along model d v runs (Some out) (take place steps) ≡ Some (paid_more z (slice_index_or stages place other))
  paced-kept out gone k place other low le e at cumul z soft =
      let rest : List Step = drop k (take place steps) in
      let split : (o : Option Stage) → along model d v runs o (take place steps) ≡ along model d v runs (along model d v runs o (take k steps)) rest =
      λ o. ap (along model d v runs o) (sym (front-split k place steps low)) ∙ along-append model d v runs o (take k steps) rest in
      let there : along model d v runs (Some (slice_index_or stages k other)) rest ≡ Some (slice_index_or stages place other) =
      ap (λ o. along model d v runs o rest) (sym (are.stages_are.each k other (omega (arith, low, le))))
      ∙ sym (split (setting_out model d v runs (first_step_or steps end))) ∙ are.stages_are.each place other le in
      split (Some out) ∙ ap (λ o. along model d v runs o rest) e
      ∙ paced model d v runs rest (slice_index_or stages k other) (slice_index_or stages place other) gone there at cumul z soft

-- no floor of the front is as kept
pub led-none : (model : Model) (d v : ℕ) (runs : Runs) (kept : List Step) (nodes : List ℕ) (next first : Step) (old new : List Step)
    → WentBack model d v runs nodes next old new first → IsStep model first
    → IsLeadAlong model d v runs kept nodes next old new (record { place = 0; first = first })
led-none model d v runs kept nodes next first old new w range = record {
  steps = w.steps;
  place = omega arith;
  nodes_are = w.nodes_are;
  aimed = w.aimed;
  known = w.known;
  trail = w.trail;
  first_is = w.first_is;
  kept_first = λ some other. absurd (omega (arith, some));
  range = range;
}

-- the stage at the start, where no step of a lead is kept
pub met-start : (model : Model) (d v : ℕ) (runs : Runs) (kept : List Step) (lead : Lead) (met : Outset) → lead.place ≡ 0
    → setting_out model d v runs lead.first ≡ Some met.stage → met.start ≡ met.stage.cumul → met.more ≡ pos 0
    → IsStageOf model 1002 met.stage → IsOutsetOf model d v runs runs.start kept lead met
met-start model d v runs kept lead met none out start more range = record {
  first = met.stage;
  out = out;
  paced = record {
    start = start;
    gone = ap (λ n. along model d v runs (Some met.stage) (take n kept)) none
        ∙ ap (λ (s : Stage). Some s) (paid-no-more model d v runs met.stage met.more more);
    range = range;
    more = record { at_least = omega (arith, ints, more); at_most = omega (arith, ints, more) };
  };
}
