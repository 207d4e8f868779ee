-- The search, from where it stands.
use Rattle.std.proofs.Common.{◌≡◌, ◌∙◌, ℕ, suc, ◌+◌, ◌-◌, ◌<◌, ◌≤◌, true, false, List, [], ◌∷◌, refl, sym, ap, arith}
use Rattle.std.specs.Prelude.{◌==◌, IsTrue}
use Rattle.vr_model.specs.search.Outcomes.{SearchState, Outcome, tried, with_event, event_at, ended, begun}
use Rattle.vr_model.specs.declared.records.Model.{Model}
use Rattle.vr_model.specs.declared.records.End.{End}
use Rattle.vr_model.specs.declared.records.End.TheVariants.{Optimum, Tries, Solutions}
use Rattle.vr_model.specs.declared.search.Event.{Event}
use Rattle.vr_model.specs.declared.search.Limit.{Limit}
use Rattle.vr_model.specs.declared.search.Kind.TheVariants as kind
use Rattle.vr_watch.specs.Told.{Reported, ReportedInPart}
use Rattle.vr_descent.proofs.GoingOn.{breaks_off, Goes, goes_as, goes_more, goes_to_end}
use Rattle.vr_descent.specs.Searching.{behind}
use Rattle.vr_lns.specs.Cuts.{improves_on}
use Rattle.vr_lns.specs.Ending.{SearchEndsAs}
use Rattle.vr_lns.specs.Rounds.{Round}
use Rattle.vr_lns.specs.Rounds.Round.{Accepted, Complete, Short}
use Rattle.vr_lns.specs.PathLns.{after_round, cut_made, path_lns, path_lns_from}
use Rattle.vr_lns.specs.Standing.{cut_event, round_events, round_at}
use Rattle.vr_lns.proofs.BoundLemmas.{bound_unmet, enough, rounded, told_by_round, Tells}

module _ (model : Model) (most : ℕ) (limit : Limit) where
  -- where a search stands: the best lists are the last
  abbrev pub standing : List (List ℕ) → ℕ → ℕ → SearchState
  standing lists used found = record { lists = lists; best = lists; used = used; found = found }

  -- the search from there, by one round more than there are tries left
  abbrev pub from_here : List (List ℕ) → ℕ → ℕ → Outcome
  from_here lists used found = path_lns_from model most limit (suc (limit.tries - used)) (standing lists used found)

  -- the whole search
  pub at_start : (lists : List (List ℕ)) → path_lns model lists limit most ≡ behind (event_at model (begun lists) kind.First ∷ []) (from_here lists 0 1)
  unfolding path_lns
  at_start lists = let all : limit.tries ≡ limit.tries - 0 = omega arith in
      ap (λ tries. with_event (event_at model (begun lists) kind.First) (path_lns_from model most limit (suc tries) (begun lists))) all

  module _ (lists : List (List ℕ)) (used found : ℕ) where
    -- what is left of the search after a round
    abbrev pub left_after : Round → Outcome
    left_after (Accepted n after) = from_here after (used + n) (found + 1)
    left_after (Complete n) = ended (tried (standing lists used found) n) Optimum
    left_after Short = ended (tried (standing lists used found) (limit.tries - used)) Tries

    -- the search is the events of a round, and what is left after it
    pub on_round : (found == limit.solutions) ≡ false → from_here lists used found
        ≡ behind (round_events model used (round_at model most limit lists used)) (left_after (round_at model most limit lists used))
    on_round e = rounded model most limit (limit.tries - used) (standing lists used found) e
        ∙ go (round_at model most limit lists used) (told_by_round model most lists (limit.tries - used))
      where
        go : (r : Round) → Tells (λ after. IsTrue (improves_on model lists after)) (limit.tries - used) 0 r
            → after_round model limit (path_lns_from model most limit (limit.tries - used)) (standing lists used found) r
            ≡ behind (round_events model used r) (left_after r)
        go (Accepted n after) h =
            ap (with_event (cut_event model after (used + n))) (ap (path_lns_from model most limit (limit.tries - used)) same ∙ fewer h.0 h.1)
          where
            same : cut_made (standing lists used found) n after ≡ standing after (used + n) (found + 1)
            same = let one : suc found ≡ found + 1 = omega arith in ap (standing after (used + n)) one

            fewer : 0 < n → n ≤ limit.tries - used
                → path_lns_from model most limit (limit.tries - used) (standing after (used + n) (found + 1)) ≡ from_here after (used + n) (found + 1)
            fewer one low = let rounds = suc (limit.tries - (used + n)) in let more = (limit.tries - used) - suc (limit.tries - (used + n)) in
                let sum : limit.tries - used ≡ rounds + more = omega (arith, one, low) in
                ap (λ k. path_lns_from model most limit k (standing after (used + n) (found + 1))) sum
                ∙ bound_unmet model most limit rounds more (standing after (used + n) (found + 1)) (omega arith)
        go (Complete n) h = refl
        go Short h = refl

    -- enough solutions were found
    pub on_enough : (found == limit.solutions) ≡ true → from_here lists used found ≡ ended (standing lists used found) Solutions
    on_enough e = enough model most limit (limit.tries - used) (standing lists used found) e

-- ---- what is told, and what is left

module _ {W : Type 0} (after : W → List Event → List ℕ) (whole : Outcome) where
  -- the next events are told, and another outcome is left
  pub goes_on : (rest next : Outcome) (events : List Event) (a b c : List W) → rest ≡ behind events next
      → Goes after whole rest a b → Reported after b c events → Goes after whole next a c
  goes_on rest next events a b c e g t = goes_more after whole next events a b c (goes_as after whole rest (behind events next) a b e g) t

  -- the search breaks off where it tells the next events
  pub breaks_off_at : (rest next : Outcome) (events : List Event) (a b c : List W) → rest ≡ behind events next
      → Goes after whole rest a b → ReportedInPart after b c events → ReportedInPart after a c whole.events
  breaks_off_at rest next events a b c e g p = breaks_off after whole next events a b c (goes_as after whole rest (behind events next) a b e g) p

  -- nothing more is told
  pub ends_as : (state : SearchState) (stop : End) (a b : List W) → Goes after whole (ended state stop) a b
      → SearchEndsAs after whole state.lists a b (record { tries = state.used; solutions = state.found; «end» = stop })
  ends_as state stop a b g = record {
    report_is = sym (ap (λ o. o.report) g.outcome);
    lists_are = sym (ap (λ o. o.last) g.outcome);
    told = goes_to_end after whole state stop a b g;
  }
