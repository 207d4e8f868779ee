-- What a round tells, and that the bound on rounds is never met.
use Rattle.std.proofs.Common.{◌≡◌, ◌∙◌, ℕ, zero, suc, ◌+◌, ◌-◌, ◌<◌, ◌≤◌, Bool, true, false, cond, List, [], ◌∷◌, Option, Some, None, refl, sym, ap, arith}
use Rattle.std.proofs.Common.{nat_lt, nat_le}
use Rattle.std.specs.Prelude.{◌==◌, IsTrue}
use Rattle.vr_model.specs.search.Outcomes.{SearchState, Outcome, with_event, event_at, ended}
use Rattle.vr_model.specs.declared.records.Model.{Model}
use Rattle.vr_model.specs.declared.records.End.TheVariants.{Solutions}
use Rattle.vr_model.specs.declared.search.Limit.{Limit}
use Rattle.vr_model.specs.declared.search.Kind.TheVariants as kind
use Rattle.vr_lns.specs.Cuts.{accepted_by, cuts, improves_on}
use Rattle.vr_lns.specs.Rounds.{Round, ends_at, round, round_from}
use Rattle.vr_lns.specs.Rounds.Round.{Accepted, Complete, Short}
use Rattle.vr_lns.specs.PathLns.{after_round, cut_made, path_lns_from}
use Rattle.vr_lns.specs.Standing.{round_end, tries_in_round}
use Rattle.vr_lns.specs.declared.cutting.Cut.{Cut}
use Rattle.vr_lns.specs.declared.rounds.RoundEnd.{RoundEnd}
use Rattle.vr_lns.specs.declared.rounds.RoundEnd.TheVariants as ends
use Rattle.vr_lns.proofs.CutLemmas.{accepted_told}

-- ---- the end of a round

-- an accepted cut has a place within the tries and a result of which this is so; no more cuts are counted than may be
-- tried
abbrev pub Tells : (List (List ℕ) → Type 0) → ℕ → ℕ → Round → Type 0
Tells P rest place (Accepted n after) = (place < n) × (n ≤ rest) × P after
Tells P rest place (Complete n) = n ≤ rest
Tells P rest place Short = Unit {0}

module _ (accepted : Cut → Option (List (List ℕ))) (rest : ℕ) (P : List (List ℕ) → Type 0)
    (told : (c : Cut) (after : List (List ℕ)) → accepted c ≡ Some after → P after) where
  later : (place : ℕ) (r : Round) → Tells P rest (suc place) r → Tells P rest place r
  later place (Accepted n after) h = (let low = h.0 in omega (arith, low), h.1, h.2)
  later place (Complete n) h = h
  later place Short h = tt

  pub round_tells : (place : ℕ) (cs : List Cut) → Tells P rest place (round_from place accepted rest cs)
  round_tells place [] = by (nat_lt rest place) refl
    where
      by : (b : Bool) → nat_lt rest place ≡ b → Tells P rest place (cond b Short (Complete place))
      by true e = tt
      by false e = Prim.grind arith
  round_tells place (c ∷ cs) = by (accepted c) refl (round_tells (suc place) cs)
    where
      at : (after : List (List ℕ)) → P after → (b : Bool) → nat_le (suc place) rest ≡ b → Tells P rest place (cond b (Accepted (suc place) after) Short)
      at after p true e = (omega arith, Prim.grind arith, p)
      at after p false e = tt

      by : (o : Option (List (List ℕ))) → accepted c ≡ o → Tells P rest (suc place) (round_from (suc place) accepted rest cs)
          → Tells P rest place (ends_at place rest o (round_from (suc place) accepted rest cs))
      by None e behind = later place (round_from (suc place) accepted rest cs) behind
      by (Some after) e behind = at after (told c after e) (nat_le (suc place) rest) refl

-- what the round of lists tells
pub told_by_round : (model : Model) (most : ℕ) (lists : List (List ℕ)) (rest : ℕ)
    → Tells (λ after. IsTrue (improves_on model lists after)) rest 0 (round model most lists rest)
told_by_round model most lists rest =
    round_tells (accepted_by model most lists) rest (λ after. IsTrue (improves_on model lists after)) (accepted_told model most lists) 0 (cuts lists)

-- ---- the search, round by round

module _ (model : Model) (most : ℕ) (limit : Limit) where
  -- the round of a search where it stands
  abbrev pub round_of : SearchState → Round
  round_of state = round model most state.lists (limit.tries - state.used)

  -- enough solutions were found
  pub enough : (rounds : ℕ) (state : SearchState) → (state.found == limit.solutions) ≡ true
      → path_lns_from model most limit (suc rounds) state ≡ ended state Solutions
  unfolding path_lns_from
  enough rounds state e = rw (e, path_lns_from) refl

  -- else the cuts are tried
  pub rounded : (rounds : ℕ) (state : SearchState) → (state.found == limit.solutions) ≡ false
      → path_lns_from model most limit (suc rounds) state ≡ after_round model limit (path_lns_from model most limit rounds) state (round_of state)
  unfolding path_lns_from
  rounded rounds state e = rw (e, path_lns_from) refl

  same_after : (again other : SearchState → Outcome) (rounds : ℕ) → ((next : SearchState) → limit.tries - next.used < rounds → again next ≡ other next)
      → (state : SearchState) → limit.tries - state.used < suc rounds → (P : List (List ℕ) → Type 0) (r : Round) → Tells P (limit.tries - state.used) 0 r
      → after_round model limit again state r ≡ after_round model limit other state r
  same_after again other rounds same state few P (Accepted n after) h =
      ap (with_event (event_at model (cut_made state n after) kind.Move))
      (same (cut_made state n after) (let one = h.0 in let low = h.1 in omega (arith, one, low, few)))
  same_after again other rounds same state few P (Complete n) h = refl
  same_after again other rounds same state few P Short h = refl

  -- a bound on the rounds that is above the number of tries left is never met: a greater one changes nothing
  pub bound_unmet : (rounds more : ℕ) (state : SearchState) → limit.tries - state.used < rounds
      → path_lns_from model most limit (rounds + more) state ≡ path_lns_from model most limit rounds state
  bound_unmet zero more state few = absurd (omega (arith, few))
  bound_unmet (suc rounds) more state few =
      let e : suc rounds + more ≡ suc (rounds + more) = omega arith in
      ap (λ n. path_lns_from model most limit n state) e ∙ go (λ next h. bound_unmet rounds more next h) (state.found == limit.solutions) refl
    where
      go : ((next : SearchState) → limit.tries - next.used < rounds
          → path_lns_from model most limit (rounds + more) next ≡ path_lns_from model most limit rounds next)
          → (b : Bool) → (state.found == limit.solutions) ≡ b
          → path_lns_from model most limit (suc (rounds + more)) state ≡ path_lns_from model most limit (suc rounds) state
      go same true e = enough (rounds + more) state e ∙ sym (enough rounds state e)
      go same false e = rounded (rounds + more) state e
          ∙ (same_after (path_lns_from model most limit (rounds + more)) (path_lns_from model most limit rounds) rounds same state few
          (λ after. IsTrue (improves_on model state.lists after)) (round_of state) (told_by_round model most state.lists (limit.tries - state.used))
          ∙ sym (rounded rounds state e))

-- ---- what the end of a round tells, as code tells it

-- no more cuts were tried than could be
pub tried_within : (P : List (List ℕ) → Type 0) (rest : ℕ) (r : Round) (ended : RoundEnd)
    → Tells P rest 0 r → ended ≡ round_end r → tries_in_round rest ended ≤ rest
tried_within P rest (Accepted n after) ended h e = let low = h.1 in let same = ap (tries_in_round rest) e in omega (arith, low, same)
tried_within P rest (Complete n) ended h e = let low = h in let same = ap (tries_in_round rest) e in omega (arith, low, same)
tried_within P rest Short ended h e = let same = ap (tries_in_round rest) e in omega (arith, same)

-- a cut was made, with some result
pub made_told : (r : Round) (n : ℕ) → ends.Accepted n ≡ round_end r → (after : List (List ℕ)) × (r ≡ Accepted n after)
made_told (Accepted k after) n e = (after, (let same : n ≡ k = Prim.cc in ap (λ m. Accepted m after) (sym same)))
made_told (Complete k) n e = absurd (no e)
  where
    no : ends.Accepted n ≡ ends.Complete k → ⊥
    no e = Prim.cc
made_told Short n e = absurd (no e)
  where
    no : ends.Accepted n ≡ ends.Short → ⊥
    no e = Prim.cc
