-- Routes that a search begins with, if there are any.
use Rattle.std.proofs.Common.{◌≡◌, Bool, Option, Some, None, sym, subst}
use Rattle.std.specs.Prelude.{IfSome, IsTrue}
use Rattle.vr_routes.specs.Tours.{Tours}

-- what holds of routes if they are kept holds of those that were kept
pub of_kept : (P : Tours → Type 0) (kept : Bool) (routes : Tours) (o : Option Tours)
    → IfSome o (λ same. IsTrue kept × (same ≡ routes)) → (IsTrue kept → P routes) → IfSome o P
of_kept P kept routes None is holds = tt
of_kept P kept routes (Some same) is holds = subst P (sym is.1) (holds is.0)
