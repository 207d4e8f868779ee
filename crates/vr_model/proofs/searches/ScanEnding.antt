-- How a scan ends.
use Rattle.std.proofs.Common.{◌≡◌, ℕ, zero, suc, ◌+◌, ◌-◌, ◌<◌, ◌≤◌, Bool, true, false, cond, List, [], ◌∷◌, length, refl, ◌∙◌, ap, subst, inl, inr, arith, ◌⊎◌}
use Rattle.std.proofs.Common.{nat_lt, nat_le}
use Rattle.std.specs.Prelude.{slice_index_or}
use Rattle.vr_model.specs.search.Scans.{Scan, scan_from, scan}
use Rattle.vr_model.specs.search.Scans.Scan.{Accepted, Complete, Cut}
use Rattle.vr_model.specs.search.ChoosingLaws.{IsFirstAcceptable, NoneAcceptable, EndsAs, ScanEnds}
use Rattle.vr_model.specs.declared.neighbours.Move.{Move}

module _ (acceptable : Move → Bool) (rest : ℕ) where
  -- how the scan of the moves behind the first `place` ones ends
  abbrev EndsFrom : ℕ → List Move → Scan → Type 0
  EndsFrom place ms (Accepted k mv) = (j : ℕ) × (k ≡ place + j) × IsFirstAcceptable ms acceptable j mv × (k ≤ rest)
  EndsFrom place ms (Complete n) = NoneAcceptable ms acceptable × (n ≡ place + length ms) × (n ≤ rest)
  EndsFrom place ms Cut = ((j : ℕ) × (mv : Move) × IsFirstAcceptable ms acceptable j mv × (rest < place + j))
      ⊎ (NoneAcceptable ms acceptable × (rest < place + length ms))

  none_more : (m : Move) (ms : List Move) → acceptable m ≡ false → NoneAcceptable ms acceptable → NoneAcceptable (m ∷ ms) acceptable
  none_more m ms e h zero d low = e
  none_more m ms e h (suc k) d low = h k d (omega (arith, low))

  first_more : (m : Move) (ms : List Move) (j : ℕ) (mv : Move) → acceptable m ≡ false
      → IsFirstAcceptable ms acceptable j mv → IsFirstAcceptable (m ∷ ms) acceptable (suc j) mv
  first_more m ms j mv e f = record {
    from_one = omega arith;
    in_list = (let l = f.in_list in omega (arith, l));
    stands_there = there;
    acceptable_there = f.acceptable_there;
    none_before = before;
  }
    where
      there : (d : Move) → slice_index_or (m ∷ ms) (suc j - 1) d ≡ mv
      there d = let low = f.from_one in let p : suc j - 1 ≡ suc (j - 1) = omega (arith, low) in ap (λ k. slice_index_or (m ∷ ms) k d) p ∙ f.stands_there d

      before : (i : ℕ) (d : Move) → suc i < suc j → acceptable (slice_index_or (m ∷ ms) i d) ≡ false
      before zero d low = e
      before (suc i) d low = f.none_before i d (omega (arith, low))

  -- one move more in front, which is not acceptable
  passed : (place : ℕ) (m : Move) (ms : List Move) → acceptable m ≡ false → (s : Scan) → EndsFrom (suc place) ms s → EndsFrom place (m ∷ ms) s
  passed place m ms e (Accepted k mv) h = (suc h.0, (let p = h.1 in omega (arith, p)), first_more m ms h.0 mv e h.2, h.3)
  passed place m ms e (Complete n) h = (none_more m ms e h.0, (let p = h.1 in omega (arith, p)), h.2)
  passed place m ms e Cut (inl h) = inl (suc h.0, h.1, first_more m ms h.0 h.1 e h.2, (let p = h.3 in omega (arith, p)))
  passed place m ms e Cut (inr h) = inr (none_more m ms e h.0, (let p = h.1 in omega (arith, p)))

  here : (m : Move) (ms : List Move) → acceptable m ≡ true → IsFirstAcceptable (m ∷ ms) acceptable 1 m
  here m ms e = record {
    from_one = omega arith;
    in_list = omega arith;
    stands_there = λ d. refl;
    acceptable_there = e;
    none_before = λ i d low. absurd (omega (arith, low));
  }

  ends : (place : ℕ) (ms : List Move) → EndsFrom place ms (scan_from place acceptable rest ms)
  ends place [] = go (nat_lt rest place) refl
    where
      none : NoneAcceptable [] acceptable
      none k d low = absurd (omega (arith, low))

      go : (c : Bool) → nat_lt rest place ≡ c → EndsFrom place [] (cond c Cut (Complete place))
      go true e = inr (none, Prim.grind arith)
      go false e = (none, omega arith, Prim.grind arith)
  ends place (m ∷ ms) = go (ends (suc place) ms) (acceptable m) refl
    where
      at_first : acceptable m ≡ true → (c : Bool) → nat_le (suc place) rest ≡ c → EndsFrom place (m ∷ ms) (cond c (Accepted (suc place) m) Cut)
      at_first e true low = (1, omega arith, here m ms e, Prim.grind arith)
      at_first e false low = inl (1, m, here m ms e, Prim.grind arith)

      go : EndsFrom (suc place) ms (scan_from (suc place) acceptable rest ms) → (c : Bool) → acceptable m ≡ c
          → EndsFrom place (m ∷ ms) (cond c (cond (nat_le (suc place) rest) (Accepted (suc place) m) Cut) (scan_from (suc place) acceptable rest ms))
      go later true e = at_first e (nat_le (suc place) rest) refl
      go later false e = passed place m ms e (scan_from (suc place) acceptable rest ms) later

  from_start : (ms : List Move) (s : Scan) → EndsFrom 0 ms s → EndsAs ms acceptable rest s
  from_start ms (Accepted k mv) h = (let e : h.0 ≡ k = (let p = h.1 in omega (arith, p)) in subst (λ j. IsFirstAcceptable ms acceptable j mv) e h.2, h.3)
  from_start ms (Complete n) h = (h.0, (let p = h.1 in omega (arith, p)), h.2)
  from_start ms Cut (inl h) = inl (h.0, h.1, h.2, (let p = h.3 in omega (arith, p)))
  from_start ms Cut (inr h) = inr (h.0, (let p = h.1 in omega (arith, p)))

pub scan_ends : ScanEnds
scan_ends ms acceptable rest = from_start acceptable rest ms (scan ms acceptable rest) (ends acceptable rest 0 ms)
