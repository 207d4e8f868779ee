-- How often a judge was asked adds up.
use Rattle.std.proofs.Common.{◌≡◌, ◌∙◌, ℕ, suc, ◌+◌, ◌<◌, ◌≤◌, ◌^◌, arith}
use Rattle.vr_known.specs.Passing.{tries_within}
use Rattle.vr_model.specs.declared.records.Model.{Model}
use Rattle.vr_routes.specs.Tours.{Tours}
use Rattle.vr_descent.specs.Asking.{AsksFor, AsksOn, Keeps}
use Rattle.vr_descent.proofs.PassedLemmas.{looks_few}

pub keeps_then : {J : Type 0} {model_of : J → Model} {holds : J → Tours → Type 0} {routes : Tours} (a b c : J)
    → Keeps model_of holds routes a b → Keeps model_of holds routes b c → Keeps model_of holds routes a c
keeps_then a b c first then = record { model = then.model ∙ first.model; committed = then.committed }

module _ {J : Type 0} {judged seen : J → ℕ} where
  -- nothing was asked
  pub asks_none : (a : J) → AsksFor judged seen a a 0
  asks_none a = record { asked = omega arith; looked = omega arith }

  pub on_none : (a : J) (n : ℕ) → AsksOn judged seen a a n n
  on_none a n = record { asked = omega arith; looked = omega arith }

  -- for no fewer tries
  pub on_more : (a b : J) (n m k : ℕ) → AsksOn judged seen a b n m → m ≤ k → AsksOn judged seen a b n k
  on_more a b n m k on low = record { asked = omega (arith, on.asked, low); looked = omega (arith, on.looked, low) }

  -- for so many tries more
  pub on_by : (a b : J) (n m k : ℕ) → AsksFor judged seen a b k → n + k ≤ m → AsksOn judged seen a b n m
  on_by a b n m k for low = record { asked = omega (arith, for.asked, low); looked = omega (arith, for.looked, low) }

  -- first for these tries, then for those
  pub on_then : (a b c : J) (n m k : ℕ) → AsksOn judged seen a b n m → AsksOn judged seen b c m k → AsksOn judged seen a c n k
  on_then a b c n m k first then = record { asked = omega (arith, first.asked, then.asked); looked = omega (arith, first.looked, then.looked) }

  -- and then for none
  pub on_same : (a b c : J) (n m : ℕ) → AsksOn judged seen a b n m → judged c ≡ judged b → seen c ≡ seen b → AsksOn judged seen a c n m
  on_same a b c n m first asked looked = record { asked = omega (arith, first.asked, asked); looked = omega (arith, first.looked, looked) }

  pub for_then : (a b c : J) (n k : ℕ) → AsksFor judged seen a b n → AsksOn judged seen b c n k → AsksFor judged seen a c k
  for_then a b c n k first then = record { asked = omega (arith, first.asked, then.asked); looked = omega (arith, first.looked, then.looked) }

  -- for as many tries
  pub asks_as : (a b : J) (n m : ℕ) → n ≡ m → AsksFor judged seen a b m → AsksFor judged seen a b n
  asks_as a b n m same for = record { asked = omega (arith, same, for.asked); looked = omega (arith, same, for.looked) }

  -- from no try on
  pub from_none : (a b : J) (n m : ℕ) → n ≡ 0 → AsksOn judged seen a b n m → AsksFor judged seen a b m
  from_none a b n m none on = record { asked = omega (arith, none, on.asked); looked = omega (arith, none, on.looked) }

  -- a judge that was asked what moves make at least, while they were passed up to some place, and judged none of them
  module _ (rest : ℕ) (a b c : J) (place reached more : ℕ) (fits : rest < 2 ^ 64) (low : place ≤ rest) (before : AsksFor judged seen a b place)
      (same : judged c ≡ judged b) (looks : seen c + tries_within rest place ≤ seen b + tries_within rest (reached + more)) where
    few : (seen c + place ≤ seen b + (reached + more)) × (seen c + place ≤ seen b + rest)
    few = looks_few rest (seen b) (seen c) place (reached + more) fits low looks

    -- it was asked for all tries at most
    pub asks_all : AsksFor judged seen a c rest
    asks_all = let most = few.1 in record { asked = omega (arith, before.asked, same, low); looked = omega (arith, before.looked, most, low) }

    -- for so many tries as there were
    pub asks_so_far : (to : ℕ) → reached + more ≤ to → place ≤ to → AsksFor judged seen a c to
    asks_so_far to there behind =
        let most = few.0 in record { asked = omega (arith, before.asked, same, behind); looked = omega (arith, before.looked, most, there, behind) }

    -- and so where a move was tried then
    pub asks_tried : (d : J) (to : ℕ) → judged d ≤ judged c + 1 → seen d ≤ seen c + 1 → reached + more ≤ to → suc place ≤ to → AsksFor judged seen a d to
    asks_tried d to asked looked there behind =
        let most = few.0 in
        record { asked = omega (arith, before.asked, same, asked, behind); looked = omega (arith, before.looked, most, looked, there, behind) }
