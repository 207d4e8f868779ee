-- Rules that hold together.
use Rattle.std.specs.Prelude.{◌&&◌, suc, Bool, true, false, List, [], ◌∷◌, All, IsTrue}
use Rattle.std.specs.List.{list_all}
use Rattle.std.proofs.Common.{refl, arith}

-- two tests that pass, pass together
pub both_true : {a b : Bool} → IsTrue a → IsTrue b → IsTrue (a && b)
both_true {a = true} h g = g
both_true {a = false} h g = h

-- a test that passes whenever P holds passes of all of which P holds
pub all_true : {A : Type 0} (test : A → Bool) (P : A → Type 0) → ((x : A) → P x → IsTrue (test x)) → (xs : List A)
    → All P xs → IsTrue (list_all test xs)
all_true test P each [] all = refl
all_true test P each (x ∷ xs) all = both_true (each x (all 0 x (Prim.omega arith)))
    (all_true test P each xs (λ k d low. all (suc k) d (Prim.omega (arith, low))))
