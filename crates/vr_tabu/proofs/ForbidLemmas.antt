-- For how long visits are tabu, as they are gone through.
use Rattle.std.proofs.Common.{◌≡◌, ℕ, ◌+◌, ◌<◌, Bool, true, false, cond, List, length, drop, refl, ap}
use Rattle.std.specs.Prelude.{◌&&◌, ◌||◌, ◌==◌, IsTrue, slice_index}
use Rattle.std.proofs.lemmas.List.{drop_more}
use Rattle.vr_model.specs.routes.Routes.{holds}

-- a visit is one of those that are left from a place on
pub held_next : (xs : List ℕ) (k : ℕ) (visit : ℕ) → k < length xs → holds (drop k xs) visit ≡ ((visit == slice_index xs k) || holds (drop (k + 1) xs) visit)
held_next xs k visit low = ap (λ ys. holds ys visit) (drop_more xs k 0 low)

-- one visit more
pub forbid_step : (here rest changes : Bool) (until now : ℕ)
    → cond (rest && changes) until (cond (here && changes) until now) ≡ cond ((here || rest) && changes) until now
forbid_step true true true until now = refl
forbid_step true true false until now = refl
forbid_step true false true until now = refl
forbid_step true false false until now = refl
forbid_step false true true until now = refl
forbid_step false true false until now = refl
forbid_step false false true until now = refl
forbid_step false false false until now = refl

-- one part more
pub part_step : (here rest : Bool) (until now : ℕ) → cond rest until (cond here until now) ≡ cond (here || rest) until now
part_step true true until now = refl
part_step true false until now = refl
part_step false true until now = refl
part_step false false until now = refl

-- the new visits, and then the old ones, where each that is changed is one of either
pub both_lists : (new old changes : Bool) (until now : ℕ) → (IsTrue changes → (new || old) ≡ true)
    → cond (old && changes) until (cond (new && changes) until now) ≡ cond changes until now
both_lists true true true until now stands = refl
both_lists true true false until now stands = refl
both_lists true false true until now stands = refl
both_lists true false false until now stands = refl
both_lists false true true until now stands = refl
both_lists false true false until now stands = refl
both_lists false false true until now stands = absurd (no (stands refl))
  where
    no : false ≡ true → ⊥
    no e = Prim.cc
both_lists false false false until now stands = refl
