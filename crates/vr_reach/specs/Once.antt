-- Facts that a struct may keep as ghost fields, each of them so in one way at most.
use Rattle.std.specs.Prelude.{IfSome, List, [], ◌∷◌, Option, Some, None, ℤ, pos, ◌+ℤ◌}
use Rattle.std.proofs.Props.{props}
use mathlib.Core.HLevel.{Unit-prop}
use Rattle.vr_spans.specs.declared.runs.Run.{Run}
use Rattle.vr_spans.specs.Runs.{IsNormalFrom}

-- a set is in its normal form in one way at most
pub IsNormalFrom-prop : (m : ℤ) (rs : List Run) → IsProp (IsNormalFrom m rs)
IsNormalFrom-prop m [] = Unit-prop
IsNormalFrom-prop m (r ∷ rs) = let rest = IsNormalFrom-prop (r.hi +ℤ pos 2) rs in Prim.hlevel (props, rest)

-- a value that may be absent passes a test in one way at most, if each value does
pub IfSome-prop : {A : Type 0} (o : Option A) (P : A → Type 0) → ((x : A) → IsProp (P x)) → IsProp (IfSome o P)
IfSome-prop None P once = Unit-prop
IfSome-prop (Some x) P once = once x
