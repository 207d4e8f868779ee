-- The bounds on the scans of the searches are never met.
use Rattle.std.proofs.Common.{◌≡◌, ℕ, zero, suc, ◌+◌, ◌-◌, ◌<◌, ◌≤◌, Bool, true, false, refl, sym, ◌∙◌, ap, arith}
use Rattle.std.specs.Prelude.{◌==◌}
use Rattle.vr_model.specs.moves.Moves.{moves}
use Rattle.vr_model.specs.search.Scans.{Scan, scan}
use Rattle.vr_model.specs.search.Scans.Scan.{Accepted, Complete, Cut}
use Rattle.vr_model.specs.search.Outcomes.{SearchState, Outcome, accepted, tried, with_event, event_at, ended}
use Rattle.vr_model.specs.search.Descents.{makes_cheaper, descended, descent_from}
use Rattle.vr_model.specs.search.GuidedSearches.{Penalties, improves_augmented, raised, is_at_end, guided_on, guided_from}
use Rattle.vr_model.specs.search.ChoosingLaws.{EndsAs}
use Rattle.vr_model.specs.search.SearchLaws.{DescentBoundUnmet, GuidedBoundUnmet}
use Rattle.vr_model.specs.declared.records.Model.{Model}
use Rattle.vr_model.specs.declared.records.End.TheVariants.{Optimum, Solutions}
use Rattle.vr_model.specs.declared.search.Limit.{Limit}
use Rattle.vr_model.specs.declared.search.Lambda.{Lambda}
use Rattle.vr_model.specs.declared.search.Kind.TheVariants as kind
use Rattle.vr_model.specs.declared.neighbours.Move.{Move}
use Rattle.vr_model.proofs.searches.ScanEnding.{scan_ends}

module _ (model : Model) (limit : Limit) where
  -- ---- descent

  enough : (scans : ℕ) (state : SearchState) → (state.found == limit.solutions) ≡ true → descent_from model limit (suc scans) state ≡ ended state Solutions
  unfolding descent_from
  enough scans state e = rw (e, descent_from) refl

  scanned : (scans : ℕ) (state : SearchState) → (state.found == limit.solutions) ≡ false
      → descent_from model limit (suc scans) state ≡ descended model limit (descent_from model limit scans)
      state (scan (moves model state.lists) (makes_cheaper model state.lists) (limit.tries - state.used))
  unfolding descent_from
  scanned scans state e = rw (e, descent_from) refl

  same_descended : (again other : SearchState → Outcome) (scans : ℕ) → ((next : SearchState) → limit.tries - next.used < scans → again next ≡ other next)
      → (state : SearchState) → limit.tries - state.used < suc scans → (acceptable : Move → Bool) (s : Scan)
      → EndsAs (moves model state.lists) acceptable (limit.tries - state.used) s
      → descended model limit again state s ≡ descended model limit other state s
  same_descended again other scans same state few acceptable (Accepted n mv) h =
      ap (with_event (event_at model (accepted model state n mv) kind.Move))
      (same (accepted model state n mv) (let one = h.0.from_one in let low = h.1 in omega (arith, one, low, few)))
  same_descended again other scans same state few acceptable (Complete n) h = refl
  same_descended again other scans same state few acceptable Cut h = refl

  descent_bound : (scans more : ℕ) (state : SearchState) → limit.tries - state.used < scans
      → descent_from model limit (scans + more) state ≡ descent_from model limit scans state
  descent_bound zero more state few = absurd (omega (arith, few))
  descent_bound (suc scans) more state few =
      let e : suc scans + more ≡ suc (scans + more) = omega arith in
      ap (λ n. descent_from model limit n state) e ∙ go (λ next h. descent_bound scans more next h) (state.found == limit.solutions) refl
    where
      go : ((next : SearchState) → limit.tries - next.used < scans → descent_from model limit (scans + more) next ≡ descent_from model limit scans next)
          → (b : Bool) → (state.found == limit.solutions) ≡ b → descent_from model limit (suc (scans + more)) state ≡ descent_from model limit (suc scans) state
      go same true e = enough (scans + more) state e ∙ sym (enough scans state e)
      go same false e = scanned (scans + more) state e
          ∙ (same_descended (descent_from model limit (scans + more)) (descent_from model limit scans) scans same state few (makes_cheaper model state.lists)
          (scan (moves model state.lists) (makes_cheaper model state.lists) (limit.tries - state.used))
          (scan_ends (moves model state.lists) (makes_cheaper model state.lists) (limit.tries - state.used))
          ∙ sym (scanned scans state e))

  -- ---- guided local search

  module _ (lambda : Lambda) where
    guided_enough : (scans : ℕ) (penalties : Penalties) (state : SearchState) → (state.found == limit.solutions) ≡ true
        → guided_from model limit lambda (suc scans) penalties state ≡ ended state Solutions
    unfolding guided_from
    guided_enough scans penalties state e = rw (e, guided_from) refl

    abbrev scan_of : Penalties → SearchState → Scan
    scan_of penalties state = scan (moves model state.lists) (improves_augmented model lambda penalties state.lists) (limit.tries - state.used)

    guided_scanned : (scans : ℕ) (penalties : Penalties) (state : SearchState) → (state.found == limit.solutions) ≡ false
        → guided_from model limit lambda (suc scans) penalties state
        ≡ guided_on model limit (guided_from model limit lambda scans) penalties state (scan_of penalties state)
    unfolding guided_from
    guided_scanned scans penalties state e = rw (e, guided_from) refl

    at_end : (again : Penalties → SearchState → Outcome) (penalties : Penalties) (state : SearchState) (n : ℕ) → is_at_end model state n ≡ true
        → guided_on model limit again penalties state (Complete n) ≡ ended (tried state n) Optimum
    at_end again penalties state n e = rw (e, guided_on) refl

    not_at_end : (again : Penalties → SearchState → Outcome) (penalties : Penalties) (state : SearchState) (n : ℕ) → is_at_end model state n ≡ false
        → guided_on model limit again penalties state (Complete n)
        ≡ with_event (event_at model (tried state n) kind.Round) (again (raised model penalties state.lists) (tried state n))
    not_at_end again penalties state n e = rw (e, guided_on) refl

    some_moves : (state : SearchState) (n : ℕ) → is_at_end model state n ≡ false → 1 ≤ n
    some_moves state zero e = absurd (no e)
      where
        no : true ≡ false → ⊥
        no e = Prim.cc
    some_moves state (suc n) e = omega arith

    same_guided : (again other : Penalties → SearchState → Outcome) (scans : ℕ)
        → ((penalties : Penalties) (next : SearchState) → limit.tries - next.used < scans → again penalties next ≡ other penalties next)
        → (penalties : Penalties) (state : SearchState) → limit.tries - state.used < suc scans
        → (acceptable : Move → Bool) (s : Scan) → EndsAs (moves model state.lists) acceptable (limit.tries - state.used) s
        → guided_on model limit again penalties state s ≡ guided_on model limit other penalties state s
    same_guided again other scans same penalties state few acceptable (Accepted n mv) h =
        ap (with_event (event_at model (accepted model state n mv) kind.Move))
        (same penalties (accepted model state n mv) (let one = h.0.from_one in let low = h.1 in omega (arith, one, low, few)))
    same_guided again other scans same penalties state few acceptable (Complete n) h = go (is_at_end model state n) refl
      where
        go : (b : Bool) → is_at_end model state n ≡ b
            → guided_on model limit again penalties state (Complete n) ≡ guided_on model limit other penalties state (Complete n)
        go true e = at_end again penalties state n e ∙ sym (at_end other penalties state n e)
        go false e = not_at_end again penalties state n e
            ∙ (ap (with_event (event_at model (tried state n) kind.Round))
            (same (raised model penalties state.lists) (tried state n) (let one = some_moves state n e in let low = h.2 in omega (arith, one, low, few)))
            ∙ sym (not_at_end other penalties state n e))
    same_guided again other scans same penalties state few acceptable Cut h = refl

    guided_bound : (scans more : ℕ) (penalties : Penalties) (state : SearchState) → limit.tries - state.used < scans
        → guided_from model limit lambda (scans + more) penalties state ≡ guided_from model limit lambda scans penalties state
    guided_bound zero more penalties state few = absurd (omega (arith, few))
    guided_bound (suc scans) more penalties state few =
        let e : suc scans + more ≡ suc (scans + more) = omega arith in
        ap (λ n. guided_from model limit lambda n penalties state) e
        ∙ go (λ next_penalties next h. guided_bound scans more next_penalties next h) (state.found == limit.solutions) refl
      where
        go : ((next_penalties : Penalties) (next : SearchState) → limit.tries - next.used < scans
            → guided_from model limit lambda (scans + more) next_penalties next ≡ guided_from model limit lambda scans next_penalties next)
            → (b : Bool) → (state.found == limit.solutions) ≡ b
            → guided_from model limit lambda (suc (scans + more)) penalties state ≡ guided_from model limit lambda (suc scans) penalties state
        go same true e = guided_enough (scans + more) penalties state e ∙ sym (guided_enough scans penalties state e)
        go same false e = guided_scanned (scans + more) penalties state e
            ∙ (same_guided (guided_from model limit lambda (scans + more)) (guided_from model limit lambda scans) scans same penalties state few
            (improves_augmented model lambda penalties state.lists) (scan_of penalties state)
            (scan_ends (moves model state.lists) (improves_augmented model lambda penalties state.lists) (limit.tries - state.used))
            ∙ sym (guided_scanned scans penalties state e))

pub descent_bound_unmet : DescentBoundUnmet
descent_bound_unmet model limit scans more state few = descent_bound model limit scans more state few

pub guided_bound_unmet : GuidedBoundUnmet
guided_bound_unmet model limit lambda scans more penalties state few = guided_bound model limit lambda scans more penalties state few
