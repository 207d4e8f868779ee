-- Ages of gaps, and which bounds are no younger.
use Rattle.std.proofs.Common.{◌≡◌, ℕ, ◌+◌, ◌-◌, ◌^◌, ◌<◌, ◌≤◌, List, length, sym, subst, arith, inl, inr}
use Rattle.std.specs.Prelude.{◌≤ℤ◌, min}
use Rattle.std.proofs.Math.Nat.{min-eq_left, min-eq_right, min-le_right, le-min}
use Rattle.std.proofs.lemmas.Bool.{cases_lt}
use Rattle.vr_model.specs.declared.records.Model.{Model}
use Rattle.vr_arccosts.specs.Runs.{gap_added}
use Rattle.vr_bounds.specs.declared.puts.Puts.{Puts}
use Rattle.vr_bounds.specs.Kept.{age_at, bound_at, next_age, ArePuts, MayStand}

-- the ages that come next do not fall
pub next-further : (clock : ℕ) → next_age clock ≤ next_age (next_age clock)
next-further clock =
    let few = min-le_right (clock + 1) (2 ^ 32 - 1) in
    le-min (omega arith) few

module _ (model : Model) (v : ℕ) (puts : Puts) where
  -- one of two ages
  pub either : (next : List ℕ) (place a b : ℕ) → MayStand model v puts next place a
      → MayStand model v puts next place b → MayStand model v puts next place (min a b)
  either next place a b one other = elim (cases_lt a b) [
    | inl less ↦ (let is : min a b ≡ a = min-eq_left (omega (arith, less)) in subst (MayStand model v puts next place) (sym is) one)
    | inr more ↦ (let is : min a b ≡ b = min-eq_right more in subst (MayStand model v puts next place) (sym is) other)
  ]

  -- the age of new gaps
  pub new-age : ArePuts model v puts → (next : List ℕ) (place : ℕ) → MayStand model v puts next place (next_age puts.clock)
  new-age are next place = record {
    born = le-min (omega arith) (omega arith);
    shown = omega arith;
    least = λ node known some older. absurd (let p = are.past node known in omega (arith, p, older));
  }

  -- the age of a gap that stays
  pub kept-age : ArePuts model v puts → (old : ℕ) (next : List ℕ) (place age : ℕ)
      → old ≤ length puts.row → 0 < length puts.row → age ≡ age_at puts old → age < 2 ^ 32
      → ((node : ℕ) → gap_added model v puts.row node node old ≡ gap_added model v next node node place) → MayStand model v puts next place age
  kept-age are old next place age low some is fits same = record {
    born = (let b = are.born old low in omega (arith, is, b));
    shown = (let s = are.shown old low in le-min (omega (arith, is, s)) (omega (arith, fits)));
    least = λ node known _ older. subst (λ d. (bound_at puts node).least ≤ℤ d) (same node) (are.least node known some old low (omega (arith, is, older)));
  }
