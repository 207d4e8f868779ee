-- How a search begins and what it answers, by what code makes of it.
use Rattle.std.proofs.Common.{◌≡◌, ◌∙◌, ◌+◌, ℕ, List, [], ◌++◌, append-nil, Bool, true, false, cond, Option, Some, None, refl, ap, ap₂, sym, subst}
use Rattle.std.specs.Prelude.{◌/◌, ◌^◌, ◌==◌, min, option_map, unwrap_or, ℤ}
use Rattle.vr_gen.specs.Draws.{words_of}
use Rattle.rand_pcg.specs.Lcg.{Lcg}
use Rattle.vr_model.specs.declared.records.End.{End}
use Rattle.vr_model.specs.declared.records.Model.{Model}
use Rattle.vr_model.specs.declared.search.Event.{Event}
use Rattle.vr_model.specs.declared.search.Limit.{Limit}
use Rattle.vr_strings.specs.Strings.{active_count}
use Rattle.vr_strings.specs.declared.sizes.Ruin.{Ruin}
use Rattle.vr_watch.specs.Told.{Reported, ReportedInPart}
use Rattle.vr_watch.proofs.ToldLemmas.{in_part_behind, told_both, told_nothing}
use Rattle.vr_ruin.specs.declared.judging.Standing.{Standing}
use Rattle.vr_ruin.specs.declared.judging.Worth.{Worth}
use Rattle.vr_ruin.specs.declared.wish.Wish.{Wish}
use Rattle.vr_ruin.specs.Answers.{answer_at, answer_of, events_of_first, RefineAnswer}
use Rattle.vr_ruin.specs.Lacking.{heat_of, lack, moving_cost}
use Rattle.vr_ruin.specs.Refining.{RefineEnd, first_events, refine_begun, refined, refined_from, refined_search, ruin_of, with_events}
use Rattle.vr_ruin.specs.Searching.{HasComeTo, IsIn}
use Rattle.vr_ruin.specs.Standings.{worth_of}

-- the heat of a search, by its parts
pub heat_is : (model : Model) (lists : List (List ℕ)) (heat : Option ℕ) (moving active : ℕ) → moving ≡ moving_cost model lists → active ≡ active_count lists
    → unwrap_or heat (min (moving / (1 + active)) (2 ^ 40)) ≡ heat_of model lists heat
heat_is model lists None moving active moving_is active_is = ap₂ (λ m a. min (m / (1 + a)) (2 ^ 40)) moving_is active_is
heat_is model lists (Some heat) moving active moving_is active_is = refl

map_cond : {A B : Type 0} (f : A → B) (b : Bool) (x : A) → option_map f (cond b (Some x) None) ≡ cond b (Some (f x)) None
map_cond f true x = refl
map_cond f false x = refl

module _ {W : Type 0} (after : W → List Event → List ℕ) (model : Model) (lists : List (List ℕ)) (limit : Limit)
    (wish : Wish) (ruin : Ruin) (left : ℕ) (ruin_is : ruin ≡ ruin_of model lists wish) (left_is : left ≡ limit.tries)
    (firsts : List Event) (firsts_are : firsts ≡ first_events model lists) where
  abbrev pub rest : RefineEnd
  rest = refined_from model ruin limit left (refine_begun lists wish.seed)

  search_is : refined_search model lists limit wish ≡ with_events firsts rest
  unfolding refined_search
  search_is =
      ap₂ (λ ruin left. with_events (first_events model lists) (refined_from model ruin limit left (refine_begun lists wish.seed))) (sym ruin_is) (sym left_is)
      ∙ ap (λ events. with_events events rest) (sym firsts_are)

  events_are : (refined_search model lists limit wish).outcome.events ≡ firsts ++ rest.outcome.events
  events_are = ap (λ (r : RefineEnd). r.outcome.events) search_is

  module _ (last best : List (List ℕ)) (at : Standing) (old mid new : List W) (stop : End)
      (told : Reported after old mid firsts) (come : HasComeTo after model rest last best at mid new stop) where
    pub answers : answer_at best at stop ≡ option_map (answer_of model) (refined model lists limit wish)
    unfolding refined
    answers = sym (
        ap (λ (r : RefineEnd). option_map (answer_of model) (cond (lack model r.outcome.best == 0) (Some r) None)) search_is
        ∙ map_cond (answer_of model) (lack model rest.outcome.best == 0) (with_events firsts rest)
        ∙ ap₂ (λ b (answer : RefineAnswer). cond b (Some answer) None)
        (ap (λ best. lack model best == 0) come.best_is ∙ ap (λ n. n == 0) (sym (ap (λ w. w.lack) come.worth_is)))
        same
        )
      where
        same : answer_of model (with_events firsts rest)
            ≡ record { best = best; first_cost = at.first.cost; report = record { tries = at.used; solutions = at.found; «end» = stop } }
        same =
            ap₂ (λ best report. let answer : RefineAnswer = record { best = best; first_cost = cost_of; report = report } in answer) come.best_is come.report_is
            ∙ ap (λ c. let answer : RefineAnswer = record {
              best = best;
              first_cost = c;
              report = record { tries = at.used; solutions = at.found; «end» = stop };
            } in answer) (sym (ap (λ w. w.cost) come.first_is))
          where
            cost_of : ℤ
            cost_of = (worth_of model rest.first).cost

    pub lasts : last ≡ (refined_search model lists limit wish).outcome.last
    lasts = sym (ap (λ (r : RefineEnd). r.outcome.last) search_is ∙ come.last_is)

    pub tells : Reported after old new (refined_search model lists limit wish).outcome.events
    tells = subst (λ events. Reported after old new events) (sym events_are) (told_both after old mid new firsts rest.outcome.events told come.told)

  pub breaks_at_first : (old new : List W) → ReportedInPart after old new firsts
      → ReportedInPart after old new (refined_search model lists limit wish).outcome.events
  breaks_at_first old new in_part = subst (λ events. ReportedInPart after old new events) (sym events_are)
      (in_part_behind after old old new [] firsts rest.outcome.events (told_nothing after old) in_part)

  pub breaks_later : (old mid new : List W) → Reported after old mid firsts → ReportedInPart after mid new rest.outcome.events
      → ReportedInPart after old new (refined_search model lists limit wish).outcome.events
  breaks_later old mid new told in_part =
      subst (λ events. ReportedInPart after old new events) (ap (λ events. firsts ++ events) (append-nil rest.outcome.events) ∙ sym events_are)
      (in_part_behind after old mid new firsts rest.outcome.events [] told in_part)

-- the state in which a search begins
pub begun_in : (model : Model) (lists best : List (List ℕ)) (seed : ℕ) (words : Lcg) (at : Standing) (first : Worth) → best ≡ lists
    → words ≡ words_of seed → at ≡ record { used = 0; found = 1; here = first; best = first; first = first } → first ≡ worth_of model lists
    → IsIn model (refine_begun lists seed) lists best words at
begun_in model lists best seed words at first best_is words_are at_is first_is = record {
  lists_are = refl;
  best_are = best_is;
  words_are = words_are;
  at_is = at_is ∙ ap (λ w. let at : Standing = record { used = 0; found = 1; here = w; best = w; first = w } in at) first_is;
}

-- the events of the first lists
pub firsts_are : (model : Model) (lists : List (List ℕ)) (first : Worth) → first ≡ worth_of model lists → events_of_first first ≡ first_events model lists
firsts_are model lists first is = ap events_of_first is
