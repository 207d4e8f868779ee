-- Greedy descent, scan by scan.
use Rattle.std.proofs.Common.{◌≡◌, ◌∙◌, ℕ, suc, ◌+◌, ◌-◌, ◌≤◌, true, false, cond, List, refl, sym, ap, arith}
use Rattle.std.specs.Prelude.{ℤ, pos, ◌-ℤ◌, int_lt, ◌&&◌, ◌==◌, ◌≤ℤ◌}
use Rattle.std.proofs.lemmas.Int.{ints}
use Rattle.vr_model.specs.moves.Moves.{apply, moves}
use Rattle.vr_model.specs.routes.Rules.{is_valid}
use Rattle.vr_model.specs.routes.Costs.{cost}
use Rattle.vr_model.specs.search.Scans.{Scan, scan}
use Rattle.vr_model.specs.search.Scans.Scan.{Accepted as accepted_as, Complete as complete, Cut as cut}
use Rattle.vr_model.specs.search.Outcomes.{SearchState, Outcome, accepted, tried, with_event, event_at, ended, begun}
use Rattle.vr_model.specs.search.Descents.{makes_cheaper, descended, descent_from, descent}
use Rattle.vr_model.specs.declared.records.Model.{Model}
use Rattle.vr_model.specs.declared.records.End.TheVariants.{Optimum, Tries, Solutions}
use Rattle.vr_model.specs.declared.search.Limit.{Limit}
use Rattle.vr_model.specs.declared.search.Kind.TheVariants as kind
use Rattle.vr_model.specs.declared.neighbours.Move.{Move}
use Rattle.vr_model.proofs.searches.SearchBounds.{descent_bound_unmet}
use Rattle.vr_routes.specs.Judging.{cost_change}
use Rattle.vr_descent.specs.Scanned.{is_acceptable, takes_less}
use Rattle.vr_descent.specs.Searching.{events_after, move_event, scan_of, behind}
use Rattle.vr_descent.proofs.EndLemmas.{accepted_where}

less : (a b : ℤ) → int_lt (a -ℤ b) (pos 0) ≡ int_lt a b
less a b = Prim.grind (arith, ints)

-- it takes what makes the cost less
pub same_improves : (model : Model) (lists : List (List ℕ)) → is_acceptable model takes_less lists ≡ makes_cheaper model lists
same_improves model lists = λ i mv. is_valid model (apply model lists mv) && less (cost model (apply model lists mv)) (cost model lists) i

module _ (model : Model) (limit : Limit) where
  -- where a descent stands: the best lists are the last
  abbrev pub standing : List (List ℕ) → ℕ → ℕ → SearchState
  standing lists used found = record { lists = lists; best = lists; used = used; found = found }

  -- the descent from there, by one scan more than there are tries left
  abbrev pub from_here : List (List ℕ) → ℕ → ℕ → Outcome
  from_here lists used found = descent_from model limit (suc (limit.tries - used)) (standing lists used found)

  -- the whole descent
  pub at_start : (lists : List (List ℕ)) → descent model lists limit ≡ with_event (event_at model (begun lists) kind.First) (from_here lists 0 1)
  unfolding descent
  at_start lists = let all : limit.tries ≡ limit.tries - 0 = omega arith in
      ap (λ tries. with_event (event_at model (begun lists) kind.First) (descent_from model limit (suc tries) (begun lists))) all

  module _ (lists : List (List ℕ)) (used found : ℕ) where
    -- enough solutions were found
    pub enough : (found == limit.solutions) ≡ true → from_here lists used found ≡ ended (standing lists used found) Solutions
    unfolding descent_from
    enough e = rw (e, descent_from) refl

    -- else the moves are scanned
    scanned : (found == limit.solutions) ≡ false → (s : Scan) → scan (moves model lists) (makes_cheaper model lists) (limit.tries - used) ≡ s
        → from_here lists used found ≡ descended model limit (descent_from model limit (limit.tries - used)) (standing lists used found) s
    unfolding descent_from
    scanned e s h = rw (e, descent_from) (ap (descended model limit (descent_from model limit (limit.tries - used)) (standing lists used found)) h)

    abbrev scanned_as : Scan → Type 0
    scanned_as s = scan (moves model lists) (is_acceptable model takes_less lists) (limit.tries - used) ≡ s

    as_improving : (s : Scan) → scanned_as s → scan (moves model lists) (makes_cheaper model lists) (limit.tries - used) ≡ s
    as_improving s h = ap (λ test. scan (moves model lists) test (limit.tries - used)) (sym (same_improves model lists)) ∙ h

    pub on_complete : (found == limit.solutions) ≡ false → (n : ℕ) → scanned_as (complete n)
        → from_here lists used found ≡ ended (tried (standing lists used found) n) Optimum
    on_complete e n h = scanned e (complete n) (as_improving (complete n) h)

    pub on_cut : (found == limit.solutions) ≡ false → scanned_as cut
        → from_here lists used found ≡ ended (tried (standing lists used found) (limit.tries - used)) Tries
    on_cut e h = scanned e cut (as_improving cut h)

    -- the descent goes on from the lists after the move
    pub on_accepted : (found == limit.solutions) ≡ false → (n : ℕ) (mv : Move) → scanned_as (accepted_as n mv)
        → 1 ≤ n → n ≤ limit.tries - used → takes_less lists mv (cost_change model lists mv) ≡ true
        → from_here lists used found ≡ with_event (move_event model lists mv (used + n)) (from_here (apply model lists mv) (used + n) (found + 1))
    on_accepted e n mv h one low t = scanned e (accepted_as n mv) (as_improving (accepted_as n mv) h)
        ∙ ap (with_event (move_event model lists mv (used + n))) (ap (descent_from model limit (limit.tries - used)) same ∙ fewer)
      where
        is_less : int_lt (cost model (apply model lists mv)) (cost model lists) ≡ true
        is_less = sym (less (cost model (apply model lists mv)) (cost model lists)) ∙ t

        same : accepted model (standing lists used found) n mv ≡ standing (apply model lists mv) (used + n) (found + 1)
        same = ap (λ b. record { lists = apply model lists mv; best = cond b (apply model lists mv) lists; used = used + n; found = suc found }) is_less
            ∙ ap (λ k. record { lists = apply model lists mv; best = apply model lists mv; used = used + n; found = k }) (one_more found)
          where
            one_more : (k : ℕ) → suc k ≡ k + 1
            one_more k = omega arith

        fewer : descent_from model limit (limit.tries - used) (standing (apply model lists mv) (used + n) (found + 1))
            ≡ from_here (apply model lists mv) (used + n) (found + 1)
        fewer = let scans = suc (limit.tries - (used + n)) in let more = (limit.tries - used) - suc (limit.tries - (used + n)) in
            let sum : limit.tries - used ≡ scans + more = omega (arith, one, low) in
            ap (λ k. descent_from model limit k (standing (apply model lists mv) (used + n) (found + 1))) sum
            ∙ descent_bound_unmet model limit scans more (standing (apply model lists mv) (used + n) (found + 1)) (omega arith)

    -- what is left of the descent after a scan
    abbrev pub left_after : Scan → Outcome
    left_after (accepted_as n mv) = from_here (apply model lists mv) (used + n) (found + 1)
    left_after (complete n) = ended (tried (standing lists used found) n) Optimum
    left_after cut = ended (tried (standing lists used found) (limit.tries - used)) Tries

    -- the descent is the events of a scan, and what is left after it
    pub on_scan : (found == limit.solutions) ≡ false → from_here lists used found
        ≡ behind (events_after model lists used (scan_of model takes_less limit lists used)) (left_after (scan_of model takes_less limit lists used))
    on_scan e = go (scan_of model takes_less limit lists used) refl
      where
        go : (s : Scan) → scan_of model takes_less limit lists used ≡ s → from_here lists used found ≡ behind (events_after model lists used s) (left_after s)
        go (accepted_as n mv) h =
            let at = accepted_where model takes_less lists (limit.tries - used) n mv h in
            on_accepted e n mv h at.from_one at.within at.takes_it
        go (complete n) h = on_complete e n h
        go cut h = on_cut e h

pub same_count : (a b : ℕ) → a ≡ b → (a == b) ≡ true
same_count a b e = Prim.grind arith

-- what is taken makes the cost no greater
pub no_dearer : (a b c : ℤ) → int_lt (a -ℤ b) (pos 0) ≡ true → b ≤ℤ c → a ≤ℤ c
no_dearer a b c e h = Prim.grind (arith, ints)
