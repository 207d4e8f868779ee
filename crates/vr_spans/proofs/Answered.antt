-- What the shared numbers of stretched runs say of each operation.
use Rattle.std.proofs.Common.{◌≡◌, Bool, true, false, ◌&&◌, not, List, [], ◌∷◌, map, ℤ, pos, neg_ℤ, ◌-ℤ◌, ◌≤ℤ◌, refl, ap, sym, ◌∙◌, Result, OnOk, arith}
use Rattle.std.specs.Prelude.{IsTrue, ◌↔◌}
use Rattle.std.proofs.lemmas.Int.{ints}
use Rattle.std.proofs.lemmas.Bool.{and_parts, and_from}
use Rattle.std.proofs.lemmas.Result.{on_ok_weaker}
use Rattle.vr_spans.specs.declared.runs.Run.{Run}
use Rattle.vr_spans.specs.Runs.{limit, in_limits, in_run, has, IsNormal, StaysWithin, IsStretched}
use Rattle.vr_spans.specs.Build.{stretched}
use Rattle.vr_spans.proofs.Numbers.{in_limits-from_has}
use Rattle.vr_spans.proofs.Stretched.{has-shifted, IsStretched-from_has, has-from_IsStretched}

implied : (b c : Bool) → (b ≡ true → c ≡ true) → (b && c) ≡ b
implied true c h = h refl
implied false c h = refl

-- all numbers within the limits
abbrev every : List Run
every = record { lo = neg_ℤ limit; hi = limit } ∷ []

module _ {T E : Type 0} (r : Result T E) (out from : List Run) where
  has-kept : (rs : List Run) (x : ℤ) → has (map (stretched (pos 0) (pos 0)) rs) x ≡ has rs x
  has-kept [] x = refl
  has-kept (r ∷ rs) x = grind (arith, ints, has-kept rs x)

  pub met : (within : List Run) → OnOk r ((x : ℤ) → has out x ≡ (has (map (stretched (pos 0) (pos 0)) from) x && has within x))
      → OnOk r ((x : ℤ) → has out x ≡ (has from x && has within x))
  met within h = on_ok_weaker r (λ is x. is x ∙ ap (λ b. b && has within x) (has-kept from x)) h

  pub clipped : (bounds : Run) → OnOk r ((x : ℤ) → has out x ≡ (has (map (stretched (pos 0) (pos 0)) from) x && has (bounds ∷ []) x))
      → OnOk r ((x : ℤ) → has out x ≡ (has from x && in_run bounds x))
  clipped bounds h = on_ok_weaker r (λ is x. is x ∙ grind (arith, has-kept from x)) h

  pub reached : (first last : ℤ) (within : List Run) → first ≤ℤ last → IsNormal from
      → OnOk r ((x : ℤ) → has out x ≡ (has (map (stretched first last) from) x && has within x))
      → OnOk r ((x : ℤ) → IsTrue (has out x) ↔ (IsTrue (has within x) × IsStretched first last from x))
  reached first last within le normal h = on_ok_weaker r both h
    where
      both : ((x : ℤ) → has out x ≡ (has (map (stretched first last) from) x && has within x))
          → (x : ℤ) → IsTrue (has out x) ↔ (IsTrue (has within x) × IsStretched first last from x)
      both is x = (
        λ t. let parts = and_parts _ _ (sym (is x) ∙ t) in (parts.1, IsStretched-from_has _ first last from x le normal parts.0),
        λ p. is x ∙ and_from _ _ (has-from_IsStretched first last from x p.1) p.0,
      )

  -- where all moved numbers stay within the limits, these leave none out
  module _ (first last : ℤ) (le : first ≤ℤ last) (normal : IsNormal from) (stays : StaysWithin first last from) where
    no_limit : (x : ℤ) → (has (map (stretched first last) from) x && has every x) ≡ has (map (stretched first last) from) x
    no_limit x = implied _ _ (λ is.
        let way = IsStretched-from_has _ first last from x le normal is in
        let near = stays way.0 way.1 in
        grind (arith, ints, way, near))

    pub grown : OnOk r ((x : ℤ) → has out x ≡ (has (map (stretched first last) from) x && has every x))
        → OnOk r ((x : ℤ) → IsTrue (has out x) ↔ IsStretched first last from x)
    grown h = on_ok_weaker r (λ is x. (
      λ t. IsStretched-from_has _ first last from x le normal (sym (is x ∙ no_limit x) ∙ t),
      λ p. (is x ∙ no_limit x) ∙ has-from_IsStretched first last from x p,
    )) h

  pub shifted : (by : ℤ) → IsNormal from → StaysWithin by by from
      → OnOk r ((x : ℤ) → has out x ≡ (has (map (stretched by by) from) x && has every x)) → OnOk r ((x : ℤ) → has out x ≡ has from (x -ℤ by))
  shifted by normal stays h = on_ok_weaker r (λ is x. is x ∙ no_limit by by (omega (arith, ints)) normal stays x ∙ has-shifted by from x) h

  -- what is shared with the gaps of another set
  pub cut : (other gaps : List Run) → IsNormal from → ((x : ℤ) → has gaps x ≡ (in_limits x && not (has other x)))
      → OnOk r ((x : ℤ) → has out x ≡ (has from x && has gaps x)) → OnOk r ((x : ℤ) → has out x ≡ (has from x && not (has other x)))
  cut other gaps normal are h = on_ok_weaker r (λ is x. grind (arith, is x, are x, in_limits-from_has _ from x (omega (arith, ints)) normal)) h
