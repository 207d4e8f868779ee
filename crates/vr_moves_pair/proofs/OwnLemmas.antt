-- The place of a delivery where its pair stands: how many other places there are.
use Rattle.std.proofs.Common.{◌≡◌, ◌∙◌, ℕ, ◌-◌, ◌<◌, ◌≤◌, true, false, Bool, length, refl, ap, arith, inl, inr}
use Rattle.std.specs.Prelude.{◌&&◌, ◌==◌, filter, not}
use Rattle.std.proofs.lemmas.Bool.Decides.{eqb_tells}
use Rattle.vr_model.specs.tables.Numbers.{from_to}
use Rattle.vr_model.specs.moves.Moves.{is_other}
use Rattle.vr_routes.specs.Pairs.{is_elsewhere}
use Rattle.vr_known.proofs.Counts.{many_all, many_but_one}
use Rattle.vr_known.proofs.NestLemmas.{filter_same}

module _ (v lo hi w s : ℕ) where
  abbrev pub passes : ℕ → Bool
  passes t = is_elsewhere v lo hi w s t

  -- a place other than that of the delivery
  other_passes : (t : ℕ) → (t ≡ hi - 1 → ⊥) → passes t ≡ true
  other_passes t other = elim (eqb_tells t (hi - 1)) [
    | inl same ↦ absurd (other same.1)
    | inr differ ↦ by (w == v) (s == lo) (t == (hi - 1)) differ.0
  ]
    where
      by : (a b c : Bool) → c ≡ false → not (a && (b && c)) ≡ true
      by true true c e = ap (λ c. not (true && (true && c))) e
      by true false c e = refl
      by false b c e = refl

  -- the pair stands in this list with its pickup at the same place
  own_fails : (t : ℕ) → passes (hi - 1) ≡ false → passes t ≡ is_other (hi - 1) t
  own_fails t none = by (w == v) (s == lo) ((hi - 1) == (hi - 1)) (t == (hi - 1)) ((hi - 1) == t) (turned t (hi - 1)) none
    where
      by : (a b c d e : Bool) → d ≡ e → not (a && (b && c)) ≡ false → not (a && (b && d)) ≡ not e
      by true true c d e same none = ap not same
      by true false c d e same none = Prim.cc
      by false b c d e same none = Prim.cc

      turned : (x y : ℕ) → (x == y) ≡ (y == x)
      turned x y = Prim.grind arith

  pub many_others : (a b : ℕ) → ((t : ℕ) → a ≤ t → t < b → passes t ≡ true) → length (filter passes (from_to a b)) ≡ b - a
  many_others a b all = ap length (filter_same passes (λ t. true) a b all) ∙ many_all a b

  -- each place passes where that of the delivery does
  pub passes_but : (a b : ℕ) → ((t : ℕ) → a ≤ t → t < b → t ≡ hi - 1 → passes t ≡ true) → (t : ℕ) → a ≤ t → t < b → passes t ≡ true
  passes_but a b own t low high = elim (eqb_tells t (hi - 1)) [
    | inl same ↦ own t low high same.1
    | inr differ ↦ other_passes t differ.1
  ]

  pub many_but_own : (a b : ℕ) → a ≤ hi - 1 → hi - 1 < b → passes (hi - 1) ≡ false → length (filter passes (from_to a b)) ≡ b - a - 1
  many_but_own a b low high none = ap length (filter_same passes (is_other (hi - 1)) a b (λ t _ _. own_fails t none)) ∙ many_but_one (hi - 1) a b low high
