-- A scan over moves that are passed over, and what stands in front of the move that a scan accepts.
use Rattle.std.proofs.Common.{◌≡◌, ◌∙◌, ℕ, suc, ◌+◌, ◌-◌, ◌<◌, ◌≤◌, ◌^◌, Bool, true, false, cond, List, [], ◌∷◌, ◌++◌, length, refl, sym, ap, subst, arith}
use Rattle.std.proofs.Common.{nat_lt, nat_le, inl, inr}
use Rattle.std.specs.Prelude.{All}
use Rattle.std.specs.List.{list_all}
use Rattle.std.proofs.lemmas.List.Elements.{All-head, All-tail}
use Rattle.std.proofs.lemmas.List.Folds.{list_all-append}
use Rattle.vr_model.specs.deciding.Testing.{and_left, and_right}
use Rattle.vr_model.specs.search.Scans.{scan_from}
use Rattle.vr_model.specs.search.Scans.Scan.{Accepted, Complete, Cut}
use Rattle.vr_model.specs.declared.neighbours.Move.{Move}
use Rattle.vr_model.proofs.tables.Members.{In}
use Rattle.vr_known.specs.Passing.{capped, tries_within}

pub capped_low : (n : ℕ) → capped n < 2 ^ 64 - 1 → capped n ≡ n
capped_low n low = Prim.grind arith

pub capped_most : (n : ℕ) → capped n ≤ n
capped_most n = Prim.grind arith

-- as many questions as tries, and as there may be
pub looks_few : (rest before after place reached : ℕ) → rest < 2 ^ 64 → place ≤ rest → after + tries_within rest place ≤ before + tries_within rest reached
    → (after + place ≤ before + reached) × (after + place ≤ before + rest)
looks_few rest before after place reached fits low few = (Prim.grind arith, Prim.grind arith)

-- a count of tries does not fall
pub at_or_behind : (rest place counted n : ℕ) → counted ≡ capped (place + n) → rest < 2 ^ 64 → place ≤ rest → place ≤ counted
at_or_behind rest place counted n counts fits low = Prim.grind arith

module _ (acceptable : Move → Bool) (rest : ℕ) where
  -- moves that are not acceptable are tries alone
  pub over : (place : ℕ) (ps ms : List Move) → ((m : Move) → In ps m → acceptable m ≡ false)
      → scan_from place acceptable rest (ps ++ ms) ≡ scan_from (place + length ps) acceptable rest ms
  over place [] ms none = let e : place ≡ place + 0 = omega arith in ap (λ k. scan_from k acceptable rest ms) e
  over place (p ∷ ps) ms none =
      let e : suc place + length ps ≡ place + suc (length ps) = omega arith in
      ap (λ b. cond b (cond (nat_le (suc place) rest) (Accepted (suc place) p) Cut) (scan_from (suc place) acceptable rest (ps ++ ms))) (none p (inl refl))
      ∙ over (suc place) ps ms (λ m h. none m (inr h)) ∙ ap (λ k. scan_from k acceptable rest ms) e

  -- a scan that is cut behind a move is cut at it, where no try is left
  cut_one : (place : ℕ) (m : Move) (ms : List Move) → rest ≤ place
      → scan_from (suc place) acceptable rest ms ≡ Cut → scan_from place acceptable rest (m ∷ ms) ≡ Cut
  cut_one place m ms far behind = go (acceptable m) behind
    where
      here : nat_le (suc place) rest ≡ false
      here = Prim.grind arith

      go : (b : Bool) → scan_from (suc place) acceptable rest ms ≡ Cut
          → cond b (cond (nat_le (suc place) rest) (Accepted (suc place) m) Cut) (scan_from (suc place) acceptable rest ms) ≡ Cut
      go true e = ap (λ c. cond c (Accepted (suc place) m) Cut) here
      go false e = e

  cut_behind : (place : ℕ) (ms : List Move) → rest < place → scan_from place acceptable rest ms ≡ Cut
  cut_behind place [] far = ap (λ b. cond b Cut (Complete place)) (is_far far)
    where
      is_far : rest < place → nat_lt rest place ≡ true
      is_far far = Prim.grind arith
  cut_behind place (m ∷ ms) far = cut_one place m ms (omega (arith, far)) (cut_behind (suc place) ms (omega (arith, far)))

  -- once as many moves were passed as may be tried, the scan is cut where a move is left
  pub cut_from : (place : ℕ) (m : Move) (ms : List Move) → rest ≤ place → scan_from place acceptable rest (m ∷ ms) ≡ Cut
  cut_from place m ms far = cut_one place m ms far (cut_behind (suc place) ms (omega (arith, far)))

  pub cut_at_end : (place : ℕ) → rest < place → scan_from place acceptable rest [] ≡ Cut
  cut_at_end place far = cut_behind place [] far

  pub ends_here : (place : ℕ) → place ≤ rest → scan_from place acceptable rest [] ≡ Complete place
  ends_here place low = ap (λ b. cond b Cut (Complete place)) (near low)
    where
      near : place ≤ rest → nat_lt rest place ≡ false
      near low = Prim.grind arith

  -- what stands in front of the move that a scan accepts is not acceptable
  pub record InFront (ms : List Move) (mv : Move) : Type 0 where
    pub before : List Move
    pub after : List Move
    pub split : ms ≡ before ++ mv ∷ after
    pub none : (m : Move) → In before m → acceptable m ≡ false

  pub in_front : (place : ℕ) (ms : List Move) (n : ℕ) (mv : Move) → scan_from place acceptable rest ms ≡ Accepted n mv → InFront ms mv
  in_front place [] n mv e = absurd (by (nat_lt rest place) e)
    where
      by : (b : Bool) → cond b Cut (Complete place) ≡ Accepted n mv → ⊥
      by true e = Prim.cc
      by false e = Prim.cc
  in_front place (x ∷ xs) n mv e = by (λ f. in_front (suc place) xs n mv f) (acceptable x) refl e
    where
      here : (b : Bool) → cond b (Accepted (suc place) x) Cut ≡ Accepted n mv → x ≡ mv
      here true e = Prim.cc
      here false e = absurd (no e)
        where
          no : Cut ≡ Accepted n mv → ⊥
          no e = Prim.cc

      none : acceptable x ≡ false → (r : InFront xs mv) → (m : Move) → In (x ∷ r.before) m → acceptable m ≡ false
      none f r m (inl e) = ap acceptable e ∙ f
      none f r m (inr h) = r.none m h

      by : (scan_from (suc place) acceptable rest xs ≡ Accepted n mv → InFront xs mv) → (b : Bool) → acceptable x ≡ b
          → cond b (cond (nat_le (suc place) rest) (Accepted (suc place) x) Cut) (scan_from (suc place) acceptable rest xs) ≡ Accepted n mv
          → InFront (x ∷ xs) mv
      by later true f e = record { before = []; after = xs; split = ap (λ y. y ∷ xs) (here (nat_le (suc place) rest) e); none = λ m h. absurd h }
      by later false f e = let r = later e in record { before = x ∷ r.before; after = r.after; split = ap (λ l. x ∷ l) r.split; none = none f r }

  -- a scan that accepts no move has none that is acceptable
  pub none_taken : (place : ℕ) (ms : List Move) (n : ℕ) → scan_from place acceptable rest ms ≡ Complete n → (m : Move) → In ms m → acceptable m ≡ false
  none_taken place [] n e m h = absurd h
  none_taken place (x ∷ xs) n e m h = by (λ f. none_taken (suc place) xs n f m) (acceptable x) refl e h
    where
      taken : (b : Bool) → cond b (Accepted (suc place) x) Cut ≡ Complete n → ⊥
      taken true e = Prim.cc
      taken false e = Prim.cc

      by : (scan_from (suc place) acceptable rest xs ≡ Complete n → In xs m → acceptable m ≡ false) → (b : Bool) → acceptable x ≡ b
          → cond b (cond (nat_le (suc place) rest) (Accepted (suc place) x) Cut) (scan_from (suc place) acceptable rest xs) ≡ Complete n
          → In (x ∷ xs) m → acceptable m ≡ false
      by later true f e h = absurd (taken (nat_le (suc place) rest) e)
      by later false f e (inl same) = ap acceptable same ∙ f
      by later false f e (inr there) = later e there

-- a test of all entries passes at each
pub at_each : {A : Type 0} (p : A → Bool) (xs : List A) → list_all p xs ≡ true → (x : A) → In xs x → p x ≡ true
at_each p [] h x there = absurd there
at_each p (y ∷ ys) h x (inl e) = ap p e ∙ and_left (p y) _ h
at_each p (y ∷ ys) h x (inr there) = at_each p ys (and_right (p y) _ h) x there

-- what holds of all entries holds of each
pub of_each : {A : Type 0} (P : A → Type 0) (xs : List A) → All P xs → (x : A) → In xs x → P x
of_each P [] h x there = absurd there
of_each P (y ∷ ys) h x (inl e) = subst P (sym e) (All-head P y ys h)
of_each P (y ∷ ys) h x (inr there) = of_each P ys (All-tail P y ys h) x there

pub all_left : {A : Type 0} (p : A → Bool) (xs ys : List A) → list_all p (xs ++ ys) ≡ true → list_all p xs ≡ true
all_left p xs ys h = and_left (list_all p xs) (list_all p ys) (sym (list_all-append p xs ys) ∙ h)

pub all_right : {A : Type 0} (p : A → Bool) (xs ys : List A) → list_all p (xs ++ ys) ≡ true → list_all p ys ≡ true
all_right p xs ys h = and_right (list_all p xs) (list_all p ys) (sym (list_all-append p xs ys) ∙ h)
