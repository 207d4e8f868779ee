-- The first of steps to visits, by what is behind them.
use Rattle.std.proofs.Common.{◌≡◌, ◌∙◌, ℕ, List, [], ◌∷◌, ◌++◌, refl, sym, ap, Option, Some, None}
use Rattle.std.specs.Option.{option_and_then}
use Rattle.vr_spans.specs.declared.runs.Run.{Run}
use Rattle.vr_model.specs.declared.records.Model.{Model}
use Rattle.vr_costfilter.specs.Floors.{before, first_step_or, first_step, nodes_in, AreAimed, WentBack}
use Rattle.vr_costfilter.specs.Runs.{starting, Runs}
use Rattle.vr_costfilter.specs.Steps.{IsLeadAlong}
use Rattle.vr_costfilter.specs.declared.steps.Lead.{Lead}
use Rattle.vr_costfilter.specs.declared.trails.Step.{Step}
use Rattle.vr_costfilter.proofs.FloorLemmas.{aimed-first, aimed-rest}

and-some : (o : Option Step) → option_and_then (λ (s : Step). Some s) o ≡ o
and-some None = refl
and-some (Some s) = refl

and-and : (f g : Step → Option Step) (o : Option Step) → option_and_then g (option_and_then f o) ≡ option_and_then (λ (s : Step). option_and_then g (f s)) o
and-and f g None = refl
and-and f g (Some s) = refl

module _ (model : Model) (d v : ℕ) (runs : Runs) where
  -- first along the last visits, then along those before them
  pub first-append : (xs ys : List ℕ) (next : Step)
      → first_step model d v runs (xs ++ ys) next ≡ option_and_then (first_step model d v runs xs) (first_step model d v runs ys next)
  first-append [] ys next = sym (and-some (first_step model d v runs ys next))
  first-append (x ∷ xs) ys next =
      ap (option_and_then (before model d v runs x)) (first-append xs ys next)
      ∙ and-and (first_step model d v runs xs) (before model d v runs x) (first_step model d v runs ys next)

  -- steps one before another begin with it
  pub aimed-begin : (steps : List Step) (next : Step) → AreAimed model d v runs steps next
      → first_step model d v runs (nodes_in steps) next ≡ Some (first_step_or steps next)
  aimed-begin [] next are = refl
  aimed-begin (x ∷ xs) next are =
      ap (option_and_then (before model d v runs x.node)) (aimed-begin xs next (aimed-rest model d v runs x xs next are))
      ∙ aimed-first model d v runs x xs next are

  pub steps-begin : (nodes : List ℕ) (steps : List Step) (next : Step) → nodes_in steps ≡ nodes
      → AreAimed model d v runs steps next → first_step model d v runs nodes next ≡ Some (first_step_or steps next)
  steps-begin nodes steps next is are = ap (λ l. first_step model d v runs l next) (sym is) ∙ aimed-begin steps next are

  pub went-begin : (nodes : List ℕ) (next first : Step) (old new : List Step)
      → WentBack model d v runs nodes next old new first → first_step model d v runs nodes next ≡ Some first
  went-begin nodes next first old new w = steps-begin nodes w.steps next w.nodes_are w.aimed ∙ ap (λ (s : Step). Some s) (sym w.first_is)

  pub led-begin :
      (kept : List Step) (nodes : List ℕ) (next : Step) (old new : List Step) (lead : Lead) (w : IsLeadAlong model d v runs kept nodes next old new lead)
      → first_step model d v runs nodes next ≡ Some lead.first
  led-begin kept nodes next old new lead w = steps-begin nodes _ next w.nodes_are w.aimed ∙ ap (λ (s : Step). Some s) (sym w.first_is)

  -- there is none where there is none of some of the last visits
  pub begin-none : (nodes xs ys : List ℕ) (next : Step) → nodes ≡ xs ++ ys
      → first_step model d v runs ys next ≡ None → first_step model d v runs nodes next ≡ None
  begin-none nodes xs ys next is none =
      ap (λ l. first_step model d v runs l next) is ∙ first-append xs ys next ∙ ap (option_and_then (first_step model d v runs xs)) none

  -- nor where there is none of those before them
  pub begin-stuck : (nodes xs ys : List ℕ) (next mid : Step) → nodes ≡ xs ++ ys → first_step model d v runs ys next ≡ Some mid
      → first_step model d v runs xs mid ≡ None → first_step model d v runs nodes next ≡ None
  begin-stuck nodes xs ys next mid is some none =
      ap (λ l. first_step model d v runs l next) is ∙ first-append xs ys next ∙ ap (option_and_then (first_step model d v runs xs)) some ∙ none

  -- the run of the start does not matter
  pub begin-starting : (start : Run) (nodes : List ℕ) (next : Step)
      → first_step model d v (starting runs start) nodes next ≡ first_step model d v runs nodes next
  begin-starting start [] next = refl
  begin-starting start (x ∷ xs) next = ap (option_and_then (before model d v runs x)) (begin-starting start xs next)
