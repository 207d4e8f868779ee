-- The plan of the chosen cumuls and break starts of a line.
use Rattle.std.proofs.Common.{◌≡◌, suc, ◌<◌, true, List, [], ◌∷◌, length, get_or, ℤ, pos, Option, Some, None, refl, sym, ap, ◌∙◌, arith}
use Rattle.std.specs.Prelude.{is_some, Bool, false, IfSome}
use Rattle.std.specs.Bool.{then_some}
use Rattle.std.specs.Option.{option_map}
use Rattle.std.proofs.lemmas.Int.{ints}
use Rattle.std.proofs.lemmas.List.{ext_get_or}
use Rattle.vr_spans.specs.Runs.{has}
use Rattle.vr_model.specs.deciding.Testing.{and_right, eq_of_tests}
use Rattle.vr_model.specs.tables.Numbers.{number_at, within, horizon}
use Rattle.vr_model.specs.schedules.Lines.{Line as Defined}
use Rattle.vr_model.specs.schedules.Schedules.{Plan as Wanted, IsChosen, cumul}
use Rattle.vr_model.specs.schedules.Choices.{chosen}
use Rattle.vr_model.proofs.schedules.ChoiceLaws.{chosen_is_least, chosen_where_feasible, one_chosen}
use Rattle.vr_steps.specs.declared.lines.Line.{Line}
use Rattle.vr_steps.specs.Lines.{IsLineOf, IsSoundLine}
use Rattle.vr_steps.proofs.LawLemmas.{lines_stand_for_theirs}
use Rattle.vr_plan.specs.declared.plans.Plan.{Plan}
use Rattle.vr_plan.specs.Plans.{AreSlacks, cumuls_of, no_hop, as_defined}
use Rattle.vr_plan.specs.Narrow.{AreOnly, fixed}
use Rattle.vr_plan.proofs.FixedLemmas.{fixed_line, to_fixed, of_fixed}
use Rattle.vr_plan.specs.Settled.{Goes, HaveChosenCumuls, IsUnfeasible}
use Rattle.vr_plan.specs.Starts.{HaveChosenStarts, HaveStarts, HaveCumuls}

-- nothing is chosen where nothing may be
pub none_where_unfeasible : (found : Option Wanted) → (is_some found ≡ true → ⊥) → None ≡ found
none_where_unfeasible None never = refl
none_where_unfeasible (Some p) never = absurd (never refl)

-- no plan is chosen of a line without schedules
pub chosen_none : (line : Line) → IsUnfeasible line → (defined : Defined) → IsLineOf defined line → None ≡ chosen defined
chosen_none line none defined of = none_where_unfeasible (chosen defined) (λ is. none defined of ((chosen_where_feasible defined).0 is))

-- the cumuls that were found are those of the chosen plan
pub chosen_numbers : (line : Line) (goes : Bool) (cumuls : List ℤ) → Goes (HaveChosenCumuls line cumuls) goes → (goes ≡ false → IsUnfeasible line)
    → (defined : Defined) → IsLineOf defined line → then_some goes cumuls ≡ option_map cumuls_of (chosen defined)
chosen_numbers line false cumuls have none defined of = ap (option_map cumuls_of) (chosen_none line (none refl) defined of)
chosen_numbers line true cumuls have none defined of =
    let plan = (have refl).chosen defined of in
    ap Some (sym plan.2) ∙ ap (option_map cumuls_of) (sym ((chosen_is_least defined plan.0).1 plan.1))

-- a fact of a value that is there where it goes on
pub some_where : {A : Type 0} (goes : Bool) (x : A) (P : A → Type 0) → Goes (P x) goes → IfSome (then_some goes x) P
some_where false x P h = tt
some_where true x P h = h refl

no_numbers : (zs : List ℤ) → length zs ≡ 0 → zs ≡ []
no_numbers [] e = refl
no_numbers (z ∷ zs) e = absurd (omega (arith, e))

-- the plan of the chosen cumuls is the chosen one
pub chosen_plan : (line : Line) → IsSoundLine line → (plan : Plan) → HaveChosenCumuls line plan.cumuls → AreSlacks line.hops plan.cumuls plan.slacks
    → HaveChosenStarts line plan.breaks → (defined : Defined) → IsLineOf defined line → Some (as_defined plan) ≡ chosen defined
chosen_plan line sound plan have slacks starts defined of =
    let s = lines_stand_for_theirs defined line of sound in
    let found = have.chosen defined of in
    let wanted = found.0 in
    let rules = found.1.schedule in
    let cumuls : wanted.cumuls ≡ plan.cumuls = found.2 in
    let arcs : length wanted.slacks ≡ length plan.slacks = let a = rules.slack_of_each_arc in
    let b = s.arcs in let c = slacks.one_of_each in omega (arith, a, b, c) in
    let same_slacks : wanted.slacks ≡ plan.slacks = ext_get_or (pos 0) wanted.slacks plan.slacks arcs (λ k lt.
    let a = rules.slack_of_each_arc in
    let b = s.arcs in
    let in_arcs : k < length defined.arcs = omega (arith, lt, a) in
    let left = rules.slacks_left k in_arcs in
    let hop = ap (λ h. h.transit) (s.hops k no_hop (omega (arith, in_arcs, b))) in
    let ours = slacks.left k (omega (arith, lt, arcs)) in
    let here = ap (λ cs. number_at cs k) cumuls in
    let there = ap (λ cs. number_at cs (suc k)) cumuls in
    omega (arith, ints, left, hop, ours, here, there)) in
    let same_starts : wanted.breaks ≡ plan.breaks = starts defined of wanted found.1 in
    let same : as_defined plan ≡ wanted = λ i. record { cumuls = sym cumuls i; slacks = sym same_slacks i; breaks = sym same_starts i } in
    ap Some same ∙ sym ((chosen_is_least defined wanted).1 found.1)

-- a line without breaks has none to start
pub no_starts : (line : Line) → line.breaks ≡ [] → HaveChosenStarts line []
no_starts line none defined of plan c = no_numbers plan.breaks (c.schedule.start_of_each_break ∙ ap length (sym of.breaks ∙ none))

module _ (line narrow : Line) (sound : IsSoundLine line) (cumuls : List ℤ) (have : HaveChosenCumuls line cumuls)
    (only : AreOnly line.allowed cumuls narrow.allowed) (hops : narrow.hops ≡ line.hops)
    (breaks : narrow.breaks ≡ line.breaks) (narrow_sound : IsSoundLine narrow) where
  -- each schedule of the narrow line has the cumuls
  pub only_cumuls : HaveCumuls narrow cumuls
  only_cumuls theirs of q s =
      let t = lines_stand_for_theirs theirs narrow of narrow_sound in
      let n = t.sound.stops in
      let stops = narrow_sound.stops in
      let number : length q.cumuls ≡ length narrow.allowed = let a = s.cumul_of_each_stop in let b = t.arcs in omega (arith, a, b, n, stops) in
      let long : length cumuls ≡ length narrow.allowed = let a = have.cumul_of_each_stop in let b = only.one_of_each in omega (arith, a, b) in
      ext_get_or (pos 0) q.cumuls cumuls (number ∙ sym long) (λ k lt.
      let inside : k < length narrow.allowed = omega (arith, lt, number) in
      let here = and_right (within (pos 0) horizon (cumul q k)) _ (s.cumuls_allowed k (omega (arith, inside, n, stops, t.arcs))) in
      let set = (t.allowed k inside).exact (cumul q k) in
      sym (eq_of_tests (number_at cumuls k) (cumul q k)
      (and_right (has (get_or line.allowed k []) (cumul q k)) _ (sym (only.each k inside (cumul q k)) ∙ (set ∙ here)))))

  fixed_of : (defined : Defined) → IsLineOf defined line → IsLineOf (fixed defined cumuls) narrow
  fixed_of defined of = fixed_line defined line narrow cumuls of have.cumul_of_each_stop only hops breaks

  long_of : (defined : Defined) → IsLineOf defined line → length cumuls ≡ length defined.allowed
  long_of defined of =
      let s = lines_stand_for_theirs defined line of sound in
      let a = have.cumul_of_each_stop in
      let b = s.sound.stops in
      let c = s.arcs in
      let d = sound.stops in
      omega (arith, a, b, c, d)

  -- what is chosen of the line is chosen of the narrower one
  fixed_chosen : (defined : Defined) (of : IsLineOf defined line) (plan : Wanted)
      → IsChosen defined plan → plan.cumuls ≡ cumuls → IsChosen (fixed defined cumuls) plan
  fixed_chosen defined of plan c e = record {
    schedule = to_fixed defined cumuls (long_of defined of) plan c.schedule e;
    least = λ other s. c.least other (of_fixed defined cumuls (long_of defined of) other s).0;
  }

  -- the starts of the narrow line are those of the line
  pub starts_of_narrow : (starts : List ℤ) → HaveStarts narrow starts → HaveChosenStarts line starts
  starts_of_narrow starts have_starts defined of plan c =
      let found = have.chosen defined of in
      let same : plan ≡ found.0 = one_chosen defined plan found.0 c found.1 in
      let cumuls_are : plan.cumuls ≡ cumuls = ap (λ (p : Wanted). p.cumuls) same ∙ found.2 in
      let mine = fixed_chosen defined of plan c cumuls_are in
      let theirs = have_starts (fixed defined cumuls) (fixed_of defined of) (plan, mine.schedule) in
      ap (λ (p : Wanted). p.breaks) (one_chosen (fixed defined cumuls) plan theirs.0 mine theirs.1) ∙ theirs.2

  -- where the narrow line has no schedule, the line has none
  pub unfeasible_of_narrow : IsUnfeasible narrow → IsUnfeasible line
  unfeasible_of_narrow none defined of feasible =
      let found = have.chosen defined of in
      none (fixed defined cumuls) (fixed_of defined of) (found.0, (fixed_chosen defined of found.0 found.1 found.2).schedule)

pub some_weaker : {A : Type 0} (found : Option A) (P Q : A → Type 0) → ((x : A) → P x → Q x) → IfSome found P → IfSome found Q
some_weaker None P Q weaker h = tt
some_weaker (Some x) P Q weaker h = weaker x h
