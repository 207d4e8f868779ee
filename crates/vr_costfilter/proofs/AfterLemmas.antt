-- What a change makes of a list is timed by what it keeps.
use Rattle.std.proofs.Common.{◌≡◌, ◌∙◌, ◌+◌, ◌<◌, ◌≤◌, ◌++◌, ℕ, List, [], Some, None, Option, false, length, refl, reverse, take, drop, ap, ap₂, sym, subst}
use Rattle.std.proofs.Common.{arith, to_z, of_z, w64}
use Rattle.std.specs.Option.{option_and_then}
use Rattle.std.specs.Prelude.{All, FitsSigned, ℤ, neg_ℤ, option_map, pos, slice_index_or, ◌*◌, ◌+ℤ◌, ◌≤ℤ◌}
use Rattle.std.proofs.lemmas.Int.{ints}
use Rattle.std.proofs.lemmas.List.{drop-map, get_or-drop, map-append, reverse-append, reverse-reverse, take-append-drop}
use Rattle.std.proofs.lemmas.List.Elements.{All-append}
use Rattle.vr_model.specs.schedules.ChosenLaws.{ChosenIsLeast}
use Rattle.vr_model.specs.schedules.Choices.{is_feasible}
use Rattle.vr_model.specs.schedules.Narrowed.{chosen_line}
use Rattle.vr_model.specs.tables.WellFormed.{IsIn, IsWellFormed}
use Rattle.vr_model.specs.declared.records.Model.{Model}
use Rattle.vr_spans.specs.declared.runs.Run.{Run}
use Rattle.vr_plan.specs.Bounds.{cumul_cost}
use Rattle.vr_costfilter.specs.Floors.{end_step, first_step_or, first_step, nodes_in, AreAimed, IsVisitStep, WentBack}
use Rattle.vr_costfilter.specs.Steps.{AreSteps, IsLeadAlong, IsOutsetOf}
use Rattle.vr_costfilter.specs.Runs.{starting, Runs, AllowsRuns}
use Rattle.vr_costfilter.specs.Stages.{along, paid_more, setting_out, along_to_end}
use Rattle.vr_costfilter.specs.declared.guides.Stage.{Stage}
use Rattle.vr_costfilter.specs.declared.steps.Lead.{Lead}
use Rattle.vr_costfilter.specs.declared.steps.Outset.{Outset}
use Rattle.vr_costfilter.specs.declared.trails.Step.{Step}
use Rattle.vr_costfilter.proofs.FeasibleLemmas.{begin-unfeasible, whole-unfeasible}
use Rattle.vr_costfilter.proofs.FirstLemmas.{begin-none, begin-starting, begin-stuck, first-append as begin-append, steps-begin, went-begin}
use Rattle.vr_costfilter.proofs.FloorLemmas.{aimed-append, aimed-right, first-append}
use Rattle.vr_costfilter.proofs.StageLemmas.{along-append, whole-append, whole-shift}
use Rattle.vr_costfilter.proofs.StuckLemmas.{along-none, whole-none}
use Rattle.vr_costfilter.proofs.TimingLemmas.{soft-high, soft-low, timed, HasTiming}

-- what is read of a cost, and of more
record IsRead (soft more : ℤ) : Type 0 where
  pub fits : FitsSigned w64 (to_z w64 (of_z w64 soft) +ℤ to_z w64 (of_z w64 more))
  pub read : to_z w64 (of_z w64 (to_z w64 (of_z w64 soft) +ℤ to_z w64 (of_z w64 more))) ≡ to_z w64 (of_z w64 (soft +ℤ more))

read-more : (soft more : ℤ) (n : ℕ) → n ≤ 1000 → pos 0 ≤ℤ (soft +ℤ more) → (soft +ℤ more) ≤ℤ pos (cumul_cost * (n + 2))
    → IsIn (neg_ℤ (pos (cumul_cost * 1002))) (pos (cumul_cost * 1002)) more → IsRead soft more
read-more soft more n few low high range =
    let x : to_z w64 (of_z w64 soft) ≡ soft = omega (arith, ints, few, low, high, range.at_least, range.at_most) in
    let y : to_z w64 (of_z w64 more) ≡ more = omega (arith, ints, range.at_least, range.at_most) in
    record { fits = omega (arith, ints, x, y, few, low, high); read = ap₂ (λ (p q : ℤ). to_z w64 (of_z w64 (p +ℤ q))) x y }

-- the chosen schedule of a list comes to this end, where more was paid on the way, from where it set out
pub record ComesTo (model : Model) (d v : ℕ) (new : List ℕ) (met : Outset) (end : Stage) : Type 0 where
  pub fits : FitsSigned w64 (to_z w64 (of_z w64 end.soft) +ℤ to_z w64 (of_z w64 met.more))
  pub has : HasTiming model d v new (record {
    soft = to_z w64 (of_z w64 (to_z w64 (of_z w64 end.soft) +ℤ to_z w64 (of_z w64 met.more)));
    start = to_z w64 (of_z w64 met.start);
    last = to_z w64 (of_z w64 end.cumul);
  })

-- a trail that was empty holds what was put on it
pub back-anew : {model : Model} {d v : ℕ} {runs : Runs} {nodes : List ℕ} {next first : Step} {old new : List Step}
    → old ≡ [] → WentBack model d v runs nodes next old new first → WentBack model d v runs nodes next [] new first
back-anew {model} {d} {v} {runs} {nodes} {next} {first} {old} {new} none back = subst (λ l. WentBack model d v runs nodes next l new first) none back

-- the list that was walked along is this one
pub led-along : {model : Model} {d v : ℕ} {runs : Runs} {kept between trail : List Step} {first : Step} {lead : Lead} {list old : List ℕ} (front : ℕ)
    → list ≡ old → IsLeadAlong model d v runs kept (take front list) first between trail lead
    → IsLeadAlong model d v runs kept (take front old) first between trail lead
led-along {model} {d} {v} {runs} {kept} {between} {trail} {first} {lead} {list} {old} front is led =
    subst (λ (l : List ℕ). IsLeadAlong model d v runs kept (take front l) first between trail lead) is led

-- what is on a trail, back along the middle of a list and then along a part of its front
trail-is : (model : Model) (d v : ℕ) (runs : Runs) (kept : List Step) (nodes middle : List ℕ) (next first : Step) (between trail : List Step)
    (lead : Lead) (back : WentBack model d v runs middle next [] between first) (led : IsLeadAlong model d v runs kept nodes first between trail lead)
    → reverse trail ≡ led.steps ++ back.steps
trail-is model d v runs kept nodes middle next first between trail lead back led =
    ap reverse (led.trail ∙ ap (λ l. l ++ reverse led.steps) back.trail) ∙ reverse-append (reverse back.steps) (reverse led.steps)
    ∙ ap₂ (λ (xs ys : List Step). xs ++ ys) (reverse-reverse led.steps) (reverse-reverse back.steps)

pub trail-known :
    {model : Model} {d v : ℕ} {runs : Runs} {kept : List Step} {nodes middle : List ℕ} {next first : Step} {between trail : List Step} {lead : Lead}
    → WentBack model d v runs middle next [] between first
    → IsLeadAlong model d v runs kept nodes first between trail lead → All (IsVisitStep model) (reverse trail)
trail-known {model} {d} {v} {runs} {kept} {nodes} {middle} {next} {first} {between} {trail} {lead} back led =
    subst (All (IsVisitStep model)) (sym (trail-is model d v runs kept nodes middle next first between trail lead back led))
    (All-append (IsVisitStep model) led.steps back.steps led.known back.known)

-- a list keeps the front and the end of an old one, whose steps are kept, and this is the step behind its middle
pub record IsKeptAround (model : Model) (d v : ℕ) (runs : Runs) (old : List ℕ) (steps : List Step)
    (new : List ℕ) (front behind : ℕ) (middle : List ℕ) (next : Step) : Type 0 where
  pub steps_are : AreSteps model d v runs old steps
  pub joins : new ≡ take front old ++ (middle ++ drop behind old)
  pub next_is : next ≡ slice_index_or steps behind (end_step model v runs)

module _ {model : Model} {d v : ℕ} {runs : Runs} {old : List ℕ} {steps : List Step} {new : List ℕ} {front behind : ℕ}
    {middle : List ℕ} {next : Step} (around : IsKeptAround model d v runs old steps new front behind middle next) (start : Run) where
  abbrev last : Step
  last = end_step model v runs

  next-first : first_step_or (drop behind steps) last ≡ next
  next-first = get_or-drop behind steps 0 last ∙ ap (λ n. slice_index_or steps n last) (let e : behind + 0 ≡ behind = omega arith in e) ∙ sym around.next_is

  behind-aimed : AreAimed model d v runs (drop behind steps) last
  behind-aimed = aimed-right model d v runs (take behind steps) (drop behind steps) last
      (subst (λ l. AreAimed model d v runs l last) (sym (take-append-drop behind steps)) around.steps_are.aimed)

  behind-nodes : nodes_in (drop behind steps) ≡ drop behind old
  behind-nodes = sym (drop-map (λ (s : Step). s.node) behind steps) ∙ ap (drop behind) around.steps_are.nodes_are

  -- back along its middle there is no way
  module _ (allows : AllowsRuns model d v (starting runs start) new (chosen_line model d v new)) where
    behind-begin : first_step model d v runs (drop behind old) last ≡ Some next
    behind-begin = steps-begin model d v runs (drop behind old) (drop behind steps) last behind-nodes behind-aimed ∙ ap (λ (s : Step). Some s) next-first

    begin-unmet : first_step model d v runs new last ≡ None → is_feasible (chosen_line model d v new) ≡ false
    begin-unmet none =
        begin-unfeasible model d v (starting runs start) new (chosen_line model d v new) allows (begin-starting model d v runs start new last ∙ none)

    pub middle-unmet : first_step model d v runs middle next ≡ None → is_feasible (chosen_line model d v new) ≡ false
    middle-unmet none =
        begin-unmet (begin-none model d v runs new (take front old) (middle ++ drop behind old) last around.joins
        (begin-stuck model d v runs (middle ++ drop behind old) middle (drop behind old) last next refl behind-begin none))

    -- nor back along the front
    pub front-unmet : {first : Step} {between : List Step} → WentBack model d v runs middle next [] between first
        → first_step model d v runs (take front old) first ≡ None → is_feasible (chosen_line model d v new) ≡ false
    front-unmet {first} {between} back none =
        let tail : first_step model d v runs (middle ++ drop behind old) last ≡ Some first =
        begin-append model d v runs middle (drop behind old) last ∙ ap (option_and_then (first_step model d v runs middle)) behind-begin
        ∙ went-begin model d v runs middle next first [] between back in
        begin-unmet (begin-stuck model d v runs new (take front old) (middle ++ drop behind old) last first around.joins tail none)

  -- new steps were put on a trail back along its middle and along a part of the front
  module _ {first : Step} {between trail : List Step} (back : WentBack model d v runs middle next [] between first)
      {lead : Lead} (led : IsLeadAlong model d v runs steps (take front old) first between trail lead) where
    abbrev fronts : List Step
    fronts = take lead.place steps ++ led.steps

    abbrev left : List Step
    left = back.steps ++ drop behind steps

    -- the runs by which it sets out
    abbrev by : Runs
    by = starting runs start

    left-first : first_step_or left last ≡ first
    left-first = first-append back.steps (drop behind steps) last ∙ ap (first_step_or back.steps) next-first ∙ sym back.first_is

    aimed : AreAimed model d v runs (fronts ++ left) last
    aimed = aimed-append model d v runs fronts left last (subst (AreAimed model d v runs fronts) (sym left-first) led.aimed)
        (aimed-append model d v runs back.steps (drop behind steps) last (subst (AreAimed model d v runs back.steps) (sym next-first) back.aimed) behind-aimed)

    new-steps : AreSteps model d v (starting runs start) new (fronts ++ left)
    new-steps = record {
      nodes_are = map-append (λ (s : Step). s.node) fronts left
          ∙ ap₂ (λ (xs ys : List ℕ). xs ++ ys) led.nodes_are (map-append (λ (s : Step). s.node) back.steps (drop behind steps)
          ∙ ap₂ (λ (xs ys : List ℕ). xs ++ ys) back.nodes_are behind-nodes) ∙ sym around.joins;
      aimed = record { each = aimed.each };
    }

    first-is : first_step_or (fronts ++ left) last ≡ lead.first
    first-is = first-append fronts left last ∙ ap (first_step_or fronts) left-first ∙ sym led.first_is

    -- from a stage behind the kept steps
    from-met : (met : Stage) → along_to_end model d v runs (Some met) (led.steps ++ left)
        ≡ along_to_end model d v runs (along model d v runs (Some met) (reverse trail)) (drop behind steps)
    from-met met =
        whole-append model d v runs (Some met) led.steps left
        ∙ whole-append model d v runs (along model d v runs (Some met) led.steps) back.steps (drop behind steps)
        ∙ ap (λ o. along_to_end model d v runs o (drop behind steps)) (sym (along-append model d v runs (Some met) led.steps back.steps)
        ∙ ap (along model d v runs (Some met)) (sym (trail-is model d v runs steps (take front old) middle next first between trail lead back led)))

    -- it does not come along them
    module _ (allows : AllowsRuns model d v (starting runs start) new (chosen_line model d v new)) where
      unmet : along_to_end model d v runs (setting_out model d v (starting runs start) lead.first) (fronts ++ left) ≡ None
          → is_feasible (chosen_line model d v new) ≡ false
      unmet none =
          whole-unfeasible model d v (starting runs start) new (chosen_line model d v new) allows (fronts ++ left) new-steps
          (ap (λ (s : Step). along_to_end model d v (starting runs start) (setting_out model d v (starting runs start) s) (fronts ++ left)) first-is ∙ none)

      pub out-unmet : along model d v runs (setting_out model d v (starting runs start) lead.first) (take lead.place steps) ≡ None
          → is_feasible (chosen_line model d v new) ≡ false
      out-unmet none =
          let out : Option Stage = setting_out model d v (starting runs start) lead.first in
          unmet (whole-append model d v runs out fronts left
          ∙ ap (λ o. along_to_end model d v runs o left) (along-append model d v runs out (take lead.place steps) led.steps
          ∙ ap (λ o. along model d v runs o led.steps) none ∙ along-none model d v runs led.steps)
          ∙ whole-none model d v runs left)

    -- it has come along the kept ones
    module _ {met : Outset} (out : IsOutsetOf model d v runs start steps lead met) where
      from-out : along_to_end model d v runs (Some out.first) (fronts ++ left)
          ≡ option_map (paid_more met.more) (along_to_end model d v runs (Some met.stage) (led.steps ++ left))
      from-out =
          whole-append model d v runs (Some out.first) fronts left
          ∙ ap (λ o. along_to_end model d v runs o left)
          (along-append model d v runs (Some out.first) (take lead.place steps) led.steps ∙ ap (λ o. along model d v runs o led.steps) out.paced.gone)
          ∙ sym (whole-append model d v runs (Some (paid_more met.more met.stage)) led.steps left)
          ∙ whole-shift model d v runs met.more (Some met.stage) (led.steps ++ left)

      pub rest-unmet : AllowsRuns model d v (starting runs start) new (chosen_line model d v new)
          → along_to_end model d v runs (along model d v runs (Some met.stage) (reverse trail)) (drop behind steps) ≡ None
          → is_feasible (chosen_line model d v new) ≡ false
      rest-unmet allows none =
          unmet allows
          (ap (λ o. along_to_end model d v runs o (fronts ++ left)) out.out ∙ from-out ∙ ap (option_map (paid_more met.more)) (from-met met.stage ∙ none))

      -- and along the new ones to its end
      module _ (gone end : Stage) (anew : along model d v runs (Some met.stage) (reverse trail) ≡ Some gone)
          (rest : along_to_end model d v runs (Some gone) (drop behind steps) ≡ Some end) where
        out-is : setting_out model d v (starting runs start) (first_step_or (fronts ++ left) (end_step model v (starting runs start))) ≡ Some out.first
        out-is = ap (setting_out model d v (starting runs start)) first-is ∙ out.out

        from-start : along_to_end model d v runs (Some out.first) (fronts ++ left) ≡ Some (paid_more met.more end)
        from-start = from-out
            ∙ ap (option_map (paid_more met.more)) (from-met met.stage ∙ ap (λ o. along_to_end model d v runs o (drop behind steps)) anew ∙ rest)

        whole-is : along_to_end model d v (starting runs start)
            (setting_out model d v (starting runs start) (first_step_or (fronts ++ left) (end_step model v (starting runs start)))) (fronts ++ left)
            ≡ Some (paid_more met.more end)
        whole-is = ap (λ o. along_to_end model d v (starting runs start) o (fronts ++ left)) out-is ∙ from-start

        module _ (law : ChosenIsLeast) (well : IsWellFormed model) (dimension : d < length model.dimensions)
            (allows : AllowsRuns model d v (starting runs start) new (chosen_line model d v new)) where
          -- the chosen schedule comes to what was found
          pub comes-to : length new ≤ 1000 → ComesTo model d v new met end
          comes-to few =
              let read =
              read-more end.soft met.more (length new) few
              (soft-low model well d v dimension by new (chosen_line model d v new) allows
              (fronts ++ left) new-steps law refl out.first (paid_more met.more end) out-is whole-is)
              (soft-high model well d v dimension by new (chosen_line model d v new) allows (fronts ++ left)
              new-steps law refl out.first (paid_more met.more end) out-is whole-is) out.paced.more in
              record {
                fits = read.fits;
                has =
                    subst
                    (λ (x : ℤ). HasTiming model d v new (record { soft = x; start = to_z w64 (of_z w64 met.start); last = to_z w64 (of_z w64 end.cumul) }))
                    (sym read.read)
                    (timed model well d v dimension by new (chosen_line model d v new) allows (fronts ++ left) new-steps
                    law refl out.first (paid_more met.more end) out-is whole-is few met.start out.paced.start);
              }
