-- Lists with and without nodes.
use Rattle.std.proofs.Common.{◌≡◌, ℕ, true, false, List, [], ◌∷◌, length, refl, arith}
use Rattle.std.specs.Prelude.{◌==◌}
use Rattle.vr_model.specs.routes.Routes.{is_empty}

pub empty-where : (list : List ℕ) → length list ≡ 0 → is_empty list ≡ true
empty-where [] e = refl
empty-where (x ∷ xs) e = absurd (omega (arith, e))

pub some-where : (list : List ℕ) → (length list ≡ 0 → ⊥) → is_empty list ≡ false
some-where [] some = absurd (some refl)
some-where (x ∷ xs) some = refl

pub some-by-test : (list : List ℕ) → (length list == 0) ≡ false → is_empty list ≡ false
some-by-test [] h = h
some-by-test (x ∷ xs) h = refl
