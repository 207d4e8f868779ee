-- Guided local search, scan by scan.
use Rattle.std.proofs.Common.{◌≡◌, ◌∙◌, ℕ, zero, suc, ◌+◌, ◌-◌, ◌≤◌, Bool, true, false, cond, List, [], ◌∷◌, length, refl, sym, ap, arith}
use Rattle.std.specs.Prelude.{◌==◌, ◌||◌, not, IsTrue}
use Rattle.vr_model.specs.routes.Rules.{is_valid}
use Rattle.vr_model.specs.moves.Moves.{apply}
use Rattle.vr_model.specs.search.Scans.{Scan}
use Rattle.vr_model.specs.search.Scans.Scan.{Accepted as accepted_as, Complete as complete, Cut as cut}
use Rattle.vr_model.specs.search.Outcomes.{Outcome, accepted, tried, with_event, event_at, ended, cheaper, begun}
use Rattle.vr_model.specs.search.GuidedSearches.{Penalties, no_penalties, raised, is_raised, is_at_end, guided_on, guided_from, guided}
use Rattle.vr_model.specs.declared.records.Model.{Model}
use Rattle.vr_model.specs.declared.records.End.TheVariants.{Optimum, Tries, Solutions}
use Rattle.vr_model.specs.declared.search.Event.{Event}
use Rattle.vr_model.specs.declared.search.Limit.{Limit}
use Rattle.vr_model.specs.declared.search.Lambda.{Lambda}
use Rattle.vr_model.specs.declared.search.Kind.TheVariants as kind
use Rattle.vr_model.specs.declared.neighbours.Move.{Move}
use Rattle.vr_model.proofs.routes.Lists.{are-lists, are_lists-count}
use Rattle.vr_model.proofs.searches.SearchBounds.{guided_bound_unmet}
use Rattle.vr_descent.specs.Searching.{events_after, move_event, scan_of, behind, standing}
use Rattle.vr_descent.proofs.EndLemmas.{accepted_where, completed_where}
use Rattle.vr_descent.proofs.GoingOn.{Goes, breaks_off, goes_as, goes_more}
use Rattle.vr_watch.specs.Told.{Reported, ReportedInPart}
use Rattle.vr_guided.specs.Counts.{AtMost}
use Rattle.vr_guided.specs.Guides.{makes_less}
use Rattle.vr_guided.specs.Standing.{guided_from_here}
use Rattle.vr_descent.specs.Incumbents.{kept}

-- penalties of which none is greater than the tries rise by one at most, where one more was tried
pub few_raised : (model : Model) (p : Penalties) (lists : List (List ℕ)) (used n : ℕ) → 1 ≤ n → AtMost used p → AtMost (used + n) (raised model p lists)
few_raised model p lists used n one few = record { each = λ origin target. go (is_raised model p lists origin target) origin target (few.each origin target) }
  where
    go : (b : Bool) (origin target : ℕ) → p origin target ≤ used → cond b (suc (p origin target)) (p origin target) ≤ used + n
    go true origin target low = omega (arith, low, one)
    go false origin target low = omega (arith, low)

module _ (model : Model) (limit : Limit) (lambda : Lambda) where
  pub at_start : (lists : List (List ℕ)) → guided model lists limit lambda
      ≡ with_event (event_at model (begun lists) kind.First) (guided_from_here model limit lambda no_penalties lists lists 0 1)
  unfolding guided
  at_start lists = let all : limit.tries ≡ limit.tries - 0 = omega arith in
      ap (λ tries. with_event (event_at model (begun lists) kind.First) (guided_from model limit lambda (suc tries) no_penalties (begun lists))) all

  module _ (penalties : Penalties) (lists best : List (List ℕ)) (used found : ℕ) where
    -- enough solutions were found
    pub enough : (found == limit.solutions) ≡ true
        → guided_from_here model limit lambda penalties lists best used found ≡ ended (standing lists best used found) Solutions
    unfolding guided_from
    enough e = rw (e, guided_from) refl

    -- else the moves are scanned
    scanned : (found == limit.solutions) ≡ false → (s : Scan) → scan_of model (makes_less model lambda penalties) limit lists used ≡ s
        → guided_from_here model limit lambda penalties lists best used found
        ≡ guided_on model limit (guided_from model limit lambda (limit.tries - used)) penalties (standing lists best used found) s
    unfolding guided_from
    scanned e s h =
        rw (e, guided_from) (ap (guided_on model limit (guided_from model limit lambda (limit.tries - used)) penalties (standing lists best used found)) h)

    -- fewer scans do as well after some tries
    fewer : (more : Penalties) (n : ℕ) → 1 ≤ n → n ≤ limit.tries - used → (after kept : List (List ℕ)) (now : ℕ)
        → guided_from model limit lambda (limit.tries - used) more (standing after kept (used + n) now)
        ≡ guided_from_here model limit lambda more after kept (used + n) now
    fewer more n one low after kept now = let scans = suc (limit.tries - (used + n)) in let rest = (limit.tries - used) - suc (limit.tries - (used + n)) in
        let sum : limit.tries - used ≡ scans + rest = omega (arith, one, low) in
        ap (λ k. guided_from model limit lambda k more (standing after kept (used + n) now)) sum
        ∙ guided_bound_unmet model limit lambda scans rest more (standing after kept (used + n) now) (omega arith)

    -- what is left of the search after a scan
    abbrev pub left_after : Scan → Outcome
    left_after (accepted_as n mv) =
        guided_from_here model limit lambda penalties (apply model lists mv) (cheaper model best (apply model lists mv)) (used + n) (found + 1)
    left_after (complete n) = elim (is_at_end model (standing lists best used found) n) [
      | true ↦ ended (tried (standing lists best used found) n) Optimum
      | false ↦ with_event (event_at model (tried (standing lists best used found) n) kind.Round)
          (guided_from_here model limit lambda (raised model penalties lists) lists best (used + n) found)
    ]
    left_after cut = ended (tried (standing lists best used found) (limit.tries - used)) Tries

    -- no penalty can help
    pub at_end : (n : ℕ) → is_at_end model (standing lists best used found) n ≡ true
        → left_after (complete n) ≡ ended (tried (standing lists best used found) n) Optimum
    at_end n e = rw (e, left_after) refl

    -- the penalties rise
    pub at_round : (n : ℕ) → is_at_end model (standing lists best used found) n ≡ false
        → left_after (complete n) ≡ behind (event_at model (tried (standing lists best used found) n) kind.Round ∷ [])
        (guided_from_here model limit lambda (raised model penalties lists) lists best (used + n) found)
    at_round n e = rw (e, left_after) refl

    -- it takes a move to get to a round
    pub some_moves : (n : ℕ) → is_at_end model (standing lists best used found) n ≡ false → 1 ≤ n
    some_moves zero e = absurd (no e)
      where
        no : true ≡ false → ⊥
        no e = Prim.cc
    some_moves (suc n) e = omega arith

    -- the search is the events of a scan, and what is left after it
    pub on_scan : (found == limit.solutions) ≡ false → guided_from_here model limit lambda penalties lists best used found
        ≡ behind (events_after model lists used (scan_of model (makes_less model lambda penalties) limit lists used))
        (left_after (scan_of model (makes_less model lambda penalties) limit lists used))
    on_scan e = go (scan_of model (makes_less model lambda penalties) limit lists used) refl
      where
        one_more : (k : ℕ) → suc k ≡ k + 1
        one_more k = omega arith

        goes_on : (n : ℕ) (mv : Move) → 1 ≤ n → n ≤ limit.tries - used
            → guided_from model limit lambda (limit.tries - used) penalties (accepted model (standing lists best used found) n mv)
            ≡ left_after (accepted_as n mv)
        goes_on n mv one low = ap (λ k. guided_from model limit lambda (limit.tries - used) penalties
            (standing (apply model lists mv) (cheaper model best (apply model lists mv)) (used + n) k)) (one_more found)
            ∙ fewer penalties n one low (apply model lists mv) (cheaper model best (apply model lists mv)) (found + 1)

        stuck : (n : ℕ) → n ≤ limit.tries - used → (b : Bool) → is_at_end model (standing lists best used found) n ≡ b
            → guided_on model limit (guided_from model limit lambda (limit.tries - used)) penalties (standing lists best used found) (complete n)
            ≡ left_after (complete n)
        stuck n low true h = rw (h, guided_on) refl ∙ sym (at_end n h)
        stuck n low false h = rw (h, guided_on) refl
            ∙ (ap (with_event (event_at model (tried (standing lists best used found) n) kind.Round))
            (fewer (raised model penalties lists) n (some_moves n h) low lists best found)
            ∙ sym (at_round n h))

        go : (s : Scan) → scan_of model (makes_less model lambda penalties) limit lists used ≡ s
            → guided_from_here model limit lambda penalties lists best used found ≡ behind (events_after model lists used s) (left_after s)
        go (accepted_as n mv) h = let at = accepted_where model (makes_less model lambda penalties) lists (limit.tries - used) n mv h in
            scanned e (accepted_as n mv) h ∙ ap (with_event (move_event model lists mv (used + n))) (goes_on n mv at.from_one at.within)
        go (complete n) h = scanned e (complete n) h ∙ stuck n (completed_where model (makes_less model lambda penalties) lists (limit.tries - used) n h)
            (is_at_end model (standing lists best used found) n) refl
        go cut h = scanned e cut h

-- a scan goes on with the search: its events are told, whole or in part
module _ (model : Model) (limit : Limit) (lambda : Lambda) (penalties : Penalties) (lists best : List (List ℕ)) (used found : ℕ) where
  abbrev scan : Scan
  scan = scan_of model (makes_less model lambda penalties) limit lists used

  abbrev told_by : List Event
  told_by = events_after model lists used scan

  module _ {W : Type 0} (after : W → List Event → List ℕ) (whole : Outcome) (a b c : List W) (more : (found == limit.solutions) ≡ false)
      (goes : Goes after whole (guided_from_here model limit lambda penalties lists best used found) a b) where
    goes_on : Goes after whole (behind told_by (left_after model limit lambda penalties lists best used found scan)) a b
    goes_on = goes_as after whole _ _ a b (on_scan model limit lambda penalties lists best used found more) goes

    pub after_scan : Reported after b c told_by → Goes after whole (left_after model limit lambda penalties lists best used found scan) a c
    after_scan told = goes_more after whole _ told_by a b c goes_on told

    pub scan_in_part : ReportedInPart after b c told_by → ReportedInPart after a c whole.events
    scan_in_part told = breaks_off after whole _ told_by a b c goes_on told

pub few_more : (p : Penalties) (used more : ℕ) → used ≤ more → AtMost used p → AtMost more p
few_more p used more low few = record { each = λ origin target. (let k = few.each origin target in omega (arith, k, low)) }

pub none_at_first : AtMost 0 no_penalties
none_at_first = record { each = λ origin target. omega arith }

-- a search that is not stuck has an arc that costs something
pub costly_of : (none costly : Bool) → (none || not costly) ≡ false → costly ≡ true
costly_of true costly e = absurd (no e)
  where
    no : true ≡ false → ⊥
    no e = Prim.cc
costly_of false true e = refl
costly_of false false e = absurd (no e)
  where
    no : true ≡ false → ⊥
    no e = Prim.cc

-- valid lists of a model are as many as others
pub as_many : (model : Model) (xs ys : List (List ℕ)) → IsTrue (is_valid model xs) → IsTrue (is_valid model ys) → length xs ≡ length ys
as_many model xs ys vx vy = are_lists-count model xs (are-lists model xs vx) ∙ sym (are_lists-count model ys (are-lists model ys vy))
