-- A node that is moved in a list.
use Rattle.std.proofs.Common.{◌≡◌, ◌∙◌, ◌+◌, ◌<◌, ℕ, zero, suc, List, [], ◌∷◌, refl, ap, sym, subst, arith, length, get_or, set}
use Rattle.std.specs.Prelude.{insert}
use Rattle.std.specs.List.{swap}
use Rattle.std.proofs.lemmas.List.Edits.{length-insert, swap_is}

-- it changes places with the node behind it
moved-by : (xs : List ℕ) (t x : ℕ) → t < length xs
    → set (set (insert xs t x) t (get_or (insert xs t x) (suc t) 0)) (suc t) (get_or (insert xs t x) t 0) ≡ insert xs (suc t) x
moved-by [] t x low = absurd (omega (arith, low))
moved-by (y ∷ ys) zero x low = refl
moved-by (y ∷ ys) (suc t) x low = ap (λ l. y ∷ l) (moved-by ys t x (omega (arith, low)))

pub moved-on : (xs : List ℕ) (t x : ℕ) → t < length xs → swap (insert xs t x) t (t + 1) ≡ insert xs (t + 1) x
moved-on xs t x low =
    let next : suc t ≡ t + 1 = omega arith in
    let long = length-insert xs t x (omega (arith, low)) in
    sym (swap_is (insert xs t x) t (t + 1) 0 (omega (arith, long, low)) (omega (arith, long, low)))
    ∙ subst (λ n. set (set (insert xs t x) t (get_or (insert xs t x) n 0)) n (get_or (insert xs t x) t 0) ≡ insert xs n x) next (moved-by xs t x low)
