-- A model is well formed in one way at most, so that a struct may keep that it is, as a ghost field.
use Rattle.std.proofs.Common.{◌≡◌, ℕ, ◌≤◌, ◌⊎◌, Option, Some, None, inl, inr, arith}
use Rattle.std.proofs.Props.{props}
use mathlib.Core.HLevel.{Unit-prop}
use Rattle.vr_model.specs.tables.WellFormed.{IsWellFormed, WherePresent}
use Rattle.vr_model.specs.declared.records.Model.{Model}

-- if a statement has one proof at most of each value, it has one at most of a value that may be absent
pub WherePresent-prop : {A : Type 0} (P : A → Type 0) (o : Option A) → ((x : A) → IsProp (P x))
    → IsProp (WherePresent P o)
WherePresent-prop P None once = Unit-prop
WherePresent-prop P (Some x) once = once x

-- if there is something, a length is in one way at most: nothing, or that of all
pub one_of-prop : (k n : ℕ) → 1 ≤ n → IsProp ((k ≡ 0) ⊎ (k ≡ n))
one_of-prop k n some (inl p) (inl q) = let once : IsProp (k ≡ 0) = Prim.hlevel props in λ i. inl (once p q i)
one_of-prop k n some (inl p) (inr q) = absurd (Prim.omega (arith, some, p, q))
one_of-prop k n some (inr p) (inl q) = absurd (Prim.omega (arith, some, p, q))
one_of-prop k n some (inr p) (inr q) = let once : IsProp (k ≡ n) = Prim.hlevel props in λ i. inr (once p q i)

pub IsWellFormed-prop : (model : Model) → IsProp (IsWellFormed model)
IsWellFormed-prop model x y = once x.number_of_nodes.0 x y
  where
    once : 1 ≤ model.nodes → IsProp (IsWellFormed model)
    once some = Prim.hlevel (props, WherePresent-prop, one_of-prop)
