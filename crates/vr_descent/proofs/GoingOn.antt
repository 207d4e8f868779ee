-- How a search goes on: what was told so far, and the outcome of what is left.
use Rattle.std.proofs.Common.{◌≡◌, ◌∙◌, ℕ, List, [], ◌++◌, sym, ap, subst, append_assoc}
use Rattle.std.proofs.lemmas.List.{append-nil}
use Rattle.vr_model.specs.search.Outcomes.{SearchState, Outcome, ended}
use Rattle.vr_model.specs.declared.records.End.{End}
use Rattle.vr_model.specs.declared.search.Event.{Event}
use Rattle.vr_watch.specs.Told.{Reported, ReportedInPart}
use Rattle.vr_watch.proofs.ToldLemmas.{told_both, none_behind, in_part_behind}
use Rattle.vr_descent.specs.Searching.{behind}

-- the whole search is what is left of it, behind the events that each watcher was told
pub record Goes {W : Type 0} (after : W → List Event → List ℕ) (whole rest : Outcome) (old new : List W) : Type 0 where
  pub told : List Event
  pub outcome : whole ≡ behind told rest
  pub heard : Reported after old new told

module _ {W : Type 0} (after : W → List Event → List ℕ) (whole : Outcome) where
  -- the next events are told
  pub goes_more : (rest : Outcome) (events : List Event) (a b c : List W)
      → Goes after whole (behind events rest) a b → Reported after b c events → Goes after whole rest a c
  goes_more rest events a b c g t = record {
    told = g.told ++ events;
    outcome = g.outcome ∙ ap (λ es. record rest { events = es }) (sym (append_assoc g.told events rest.events));
    heard = told_both after a b c g.told events g.heard t;
  }

  -- nothing more is told
  pub goes_to_end : (state : SearchState) (stop : End) (a b : List W) → Goes after whole (ended state stop) a b → Reported after a b whole.events
  goes_to_end state stop a b g = subst (λ es. Reported after a b es) (sym (ap (λ o. o.events) g.outcome ∙ append-nil g.told)) g.heard

  -- the search breaks off where it tells the next events
  pub breaks_off : (rest : Outcome) (events : List Event) (a b c : List W) → Goes after whole (behind events rest) a b
      → ReportedInPart after b c events → ReportedInPart after a c whole.events
  breaks_off rest events a b c g p =
      subst (λ es. ReportedInPart after a c es) (sym (ap (λ o. o.events) g.outcome)) (in_part_behind after a b c g.told events rest.events g.heard p)

  -- the search breaks off where it stands
  pub goes_nowhere : (rest : Outcome) (a b : List W) → Goes after whole rest a b → ReportedInPart after a b whole.events
  goes_nowhere rest a b g = subst (λ es. ReportedInPart after a b es) (sym (ap (λ o. o.events) g.outcome)) (none_behind after a b g.told rest.events g.heard)

  -- what is left was told
  pub ends_within : (rest : Outcome) (a b c : List W) → Goes after whole rest a b → Reported after b c rest.events → Reported after a c whole.events
  ends_within rest a b c g t = subst (λ es. Reported after a c es) (sym (ap (λ o. o.events) g.outcome)) (told_both after a b c g.told rest.events g.heard t)

  -- what is left was told in part
  pub breaks_within : (rest : Outcome) (a b c : List W) → Goes after whole rest a b
      → ReportedInPart after b c rest.events → ReportedInPart after a c whole.events
  breaks_within rest a b c g p = subst (λ es. ReportedInPart after a c es)
      (ap (λ es. g.told ++ es) (append-nil rest.events) ∙ sym (ap (λ o. o.events) g.outcome)) (in_part_behind after a b c g.told rest.events [] g.heard p)

  -- the same outcome
  pub goes_as : (rest other : Outcome) (a b : List W) → rest ≡ other → Goes after whole rest a b → Goes after whole other a b
  goes_as rest other a b e g = subst (λ o. Goes after whole o a b) e g
