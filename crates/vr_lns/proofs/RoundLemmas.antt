-- A round of cuts, cut by cut and list by list.
use Rattle.std.proofs.Common.{◌≡◌, ◌∙◌, ℕ, suc, ◌+◌, ◌<◌, ◌≤◌, Bool, true, false, cond, List, [], ◌∷◌, ◌++◌, Option, Some, None, refl, sym, ap, arith, nat_lt}
use Rattle.std.proofs.Common.{nat_le}
use Rattle.std.specs.Prelude.{map}
use Rattle.vr_model.specs.tables.Numbers.{from_to}
use Rattle.vr_model.proofs.tables.Ranges.{walk_opens}
use Rattle.vr_lns.specs.Rounds.{Round, ends_at, round_from}
use Rattle.vr_lns.specs.Rounds.Round.{Accepted, Complete, Short}
use Rattle.vr_lns.specs.Standing.{is_taken_over, round_end}
use Rattle.vr_lns.specs.declared.cutting.Cut.{Cut}
use Rattle.vr_lns.specs.declared.rounds.RoundEnd.{RoundEnd}
use Rattle.vr_lns.specs.declared.rounds.RoundEnd.TheVariants as ends

-- the cut at a place of the list of a vehicle
abbrev pub cut_at : ℕ → ℕ → Cut
cut_at v a = record { vehicle = v; place = a }

-- the cut that comes next in the list of a vehicle, and those behind it
pub next_cut : {A : Type 0} (f : List Cut → A) (v n a : ℕ) (whole : A)
    → f (map (cut_at v) (from_to a n)) ≡ whole → a < n → f (cut_at v a ∷ map (cut_at v) (from_to (a + 1) n)) ≡ whole
next_cut f v n a whole left low = walk_opens (λ xs. f (map (cut_at v) xs)) n a left low

-- a result that is taken over is there, and one that is not is not
taken_told : (o : Option (List (List ℕ))) → is_taken_over o ≡ true → (after : List (List ℕ)) × (o ≡ Some after)
taken_told None h = absurd (no h)
  where
    no : false ≡ true → ⊥
    no h = Prim.cc
taken_told (Some after) h = (after, refl)

pub not_taken : (o : Option (List (List ℕ))) → is_taken_over o ≡ false → o ≡ None
not_taken None h = refl
not_taken (Some after) h = absurd (no h)
  where
    no : true ≡ false → ⊥
    no h = Prim.cc

-- how a round goes on behind the cuts of some lists
abbrev pub round_behind : (Cut → Option (List (List ℕ))) → ℕ → List Cut → Round → Round
round_behind accepted rest cs (Accepted n after) = Accepted n after
round_behind accepted rest cs (Complete n) = round_from n accepted rest cs
round_behind accepted rest cs Short = Short

module _ (accepted : Cut → Option (List (List ℕ))) (rest : ℕ) where
  -- a cut that may not be tried any more changes nothing where the tries run out behind it
  untried : (place : ℕ) (c : Cut) (cs : List Cut) → rest ≤ place
      → round_from (suc place) accepted rest cs ≡ Short → round_from place accepted rest (c ∷ cs) ≡ Short
  untried place c cs far = go (accepted c)
    where
      here : nat_le (suc place) rest ≡ false
      here = Prim.grind arith

      go : (o : Option (List (List ℕ))) → round_from (suc place) accepted rest cs ≡ Short
          → ends_at place rest o (round_from (suc place) accepted rest cs) ≡ Short
      go None e = e
      go (Some after) e = ap (λ b. cond b (Accepted (suc place) after) Short) here

  -- once more cuts were passed than may be tried, the tries have run out
  short_behind : (place : ℕ) (cs : List Cut) → rest < place → round_from place accepted rest cs ≡ Short
  short_behind place [] far = ap (λ b. cond b Short (Complete place)) (is_far far)
    where
      is_far : rest < place → nat_lt rest place ≡ true
      is_far far = Prim.grind arith
  short_behind place (c ∷ cs) far = untried place c cs (omega (arith, far)) (short_behind (suc place) cs (omega (arith, far)))

  -- a cut is left, and no try
  pub short_here : (place : ℕ) (c : Cut) (cs : List Cut) → place ≡ rest → round_from place accepted rest (c ∷ cs) ≡ Short
  short_here place c cs e = untried place c cs (omega (arith, e)) (short_behind (suc place) cs (omega (arith, e)))

  -- the next cut is acceptable, and may be tried
  accepted_here : (place : ℕ) (c : Cut) (cs : List Cut) (after : List (List ℕ)) → place < rest
      → accepted c ≡ Some after → round_from place accepted rest (c ∷ cs) ≡ Accepted (place + 1) after
  accepted_here place c cs after low e =
      let one : suc place ≡ place + 1 = omega arith in
      ap (λ o. ends_at place rest o (round_from (suc place) accepted rest cs)) e
      ∙ ap (λ b. cond b (Accepted (suc place) after) Short) here ∙ ap (λ n. Accepted n after) one
    where
      here : nat_le (suc place) rest ≡ true
      here = Prim.grind arith

  pub taken_here : (place : ℕ) (c : Cut) (cs : List Cut) (whole : Round)
      → round_from place accepted rest (c ∷ cs) ≡ whole → place < rest → is_taken_over (accepted c) ≡ true
      → (after : List (List ℕ)) × (accepted c ≡ Some after) × (whole ≡ Accepted (place + 1) after)
  taken_here place c cs whole e low h = let t = taken_told (accepted c) h in (t.0, t.1, sym e ∙ accepted_here place c cs t.0 low t.1)

  -- the next cut is not
  pub passed_here : (place : ℕ) (c : Cut) (cs : List Cut) → accepted c ≡ None
      → round_from place accepted rest (c ∷ cs) ≡ round_from (place + 1) accepted rest cs
  passed_here place c cs e = let one : suc place ≡ place + 1 = omega arith in
      ap (λ o. ends_at place rest o (round_from (suc place) accepted rest cs)) e ∙ ap (λ n. round_from n accepted rest cs) one

  -- no cut is left
  pub none_left : (place : ℕ) → place ≤ rest → round_from place accepted rest [] ≡ Complete place
  none_left place low = ap (λ b. cond b Short (Complete place)) (is_near low)
    where
      is_near : place ≤ rest → nat_lt rest place ≡ false
      is_near low = Prim.grind arith

  -- some cuts, and then others
  pub round_both : (place : ℕ) (cs ds : List Cut)
      → round_from place accepted rest (cs ++ ds) ≡ round_behind accepted rest ds (round_from place accepted rest cs)
  round_both place [] ds = by (nat_lt rest place) refl
    where
      by : (b : Bool) → nat_lt rest place ≡ b → round_from place accepted rest ds ≡ round_behind accepted rest ds (cond b Short (Complete place))
      by true far = short_behind place ds (Prim.grind arith)
      by false near = refl
  round_both place (c ∷ cs) ds = by (accepted c) (round_both (suc place) cs ds)
    where
      shut : (after : List (List ℕ)) (b : Bool)
          → cond b (Accepted (suc place) after) Short ≡ round_behind accepted rest ds (cond b (Accepted (suc place) after) Short)
      shut after true = refl
      shut after false = refl

      by : (o : Option (List (List ℕ)))
          → round_from (suc place) accepted rest (cs ++ ds) ≡ round_behind accepted rest ds (round_from (suc place) accepted rest cs)
          → ends_at place rest o (round_from (suc place) accepted rest (cs ++ ds))
          ≡ round_behind accepted rest ds (ends_at place rest o (round_from (suc place) accepted rest cs))
      by None e = e
      by (Some after) e = shut after (nat_le (suc place) rest)

  -- a round that is not at the end of some cuts has ended
  pub behind_none : (ds : List Cut) (r : Round) (ended : RoundEnd) → ended ≡ round_end r
      → ((n : ℕ) → ended ≡ ends.Complete n → ⊥) → round_behind accepted rest ds r ≡ r
  behind_none ds (Accepted n after) ended e h = refl
  behind_none ds (Complete n) ended e h = absurd (h n e)
  behind_none ds Short ended e h = refl

-- the round was complete
pub completed : (r : Round) (n : ℕ) → ends.Complete n ≡ round_end r → r ≡ Complete n
completed (Accepted k after) n e = absurd (no e)
  where
    no : ends.Complete n ≡ ends.Accepted k → ⊥
    no e = Prim.cc
completed (Complete k) n e = Prim.cc
completed Short n e = absurd (no e)
  where
    no : ends.Complete n ≡ ends.Short → ⊥
    no e = Prim.cc

-- the tries ran out
pub ran_short : (r : Round) → ends.Short ≡ round_end r → r ≡ Short
ran_short (Accepted k after) e = absurd (no e)
  where
    no : ends.Short ≡ ends.Accepted k → ⊥
    no e = Prim.cc
ran_short (Complete k) e = absurd (no e)
  where
    no : ends.Short ≡ ends.Complete k → ⊥
    no e = Prim.cc
ran_short Short e = refl
