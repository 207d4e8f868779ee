-- What a change of a stretch of a route makes of a sum over its arcs: only the arcs of the stretch count.
use Rattle.std.proofs.Common.{◌≡◌, ◌∙◌, ℕ, List, [], ◌∷◌, ◌++◌, refl, sym, ap, append_assoc, arith}
use Rattle.std.specs.Prelude.{ℤ, ◌+ℤ◌, ◌-ℤ◌}
use Rattle.std.proofs.lemmas.Int.{ints}
use Rattle.vr_model.specs.tables.Numbers.{total_by, each}
use Rattle.vr_model.specs.routes.Routes.{UsedArc, arcs_from}
use Rattle.vr_balance.specs.Sums.{last_of}
use Rattle.vr_model.proofs.tables.Totals.{total_by-append}

arcs_split : (v x : ℕ) (front rest : List ℕ) → arcs_from v x (front ++ rest) ≡ arcs_from v x front ++ arcs_from v (last_of x front) rest
arcs_split v x [] rest = refl
arcs_split v x (y ∷ ys) rest = ap (λ arcs. record { vehicle = v; origin = x; target = y } ∷ arcs) (arcs_split v y ys rest)

pub last_behind : (x y : ℕ) (front : List ℕ) → last_of x (front ++ y ∷ []) ≡ y
last_behind x y [] = refl
last_behind x y (z ∷ zs) = last_behind z y zs

module _ (f : UsedArc → ℤ) (v : ℕ) where
  -- the sum over the arcs from x through some nodes
  abbrev pub along : ℕ → List ℕ → ℤ
  along x nodes = total_by f (arcs_from v x nodes)

  pub along_split : (x : ℕ) (front rest : List ℕ) → along x (front ++ rest) ≡ along x front +ℤ along (last_of x front) rest
  along_split x front rest = ap (total_by f) (arcs_split v x front rest) ∙ total_by-append f (arcs_from v x front) (arcs_from v (last_of x front) rest)

  -- a stretch up to the node `next`, and the nodes behind
  stretch : (x next : ℕ) (middle behind : List ℕ) → along x (middle ++ next ∷ behind) ≡ along x (middle ++ next ∷ []) +ℤ along next behind
  stretch x next middle behind = ap (along x) (sym (append_assoc middle (next ∷ []) behind))
      ∙ (along_split x (middle ++ next ∷ []) behind ∙ ap (λ y. along x (middle ++ next ∷ []) +ℤ along y behind) (last_behind x next middle))

  -- what stands before and behind a changed stretch does not count
  pub local_change : (x next : ℕ) (front old new behind : List ℕ)
      → along x (front ++ (new ++ next ∷ behind)) -ℤ along x (front ++ (old ++ next ∷ behind))
      ≡ along (last_of x front) (new ++ next ∷ []) -ℤ along (last_of x front) (old ++ next ∷ [])
  local_change x next front old new behind = omega (
    arith,
    ints,
    along_split x front (new ++ next ∷ behind),
    along_split x front (old ++ next ∷ behind),
    stretch (last_of x front) next new behind,
    stretch (last_of x front) next old behind,
  )

-- a sum over all vehicles' arcs is the sum of the sums of each
pub total_by_each : {A B : Type 0} (f : B → ℤ) (arcs : A → List B) (xs : List A) → total_by f (each xs arcs) ≡ total_by (λ x. total_by f (arcs x)) xs
total_by_each f arcs [] = refl
total_by_each f arcs (x ∷ xs) = total_by-append f (arcs x) (each xs arcs) ∙ ap (λ s. total_by f (arcs x) +ℤ s) (total_by_each f arcs xs)
