-- What is kept of lists, written place by place, and after a list is replaced.
use Rattle.std.proofs.Common.{◌≡◌, ◌∙◌, inl, inr, ℕ, suc, ◌+◌, ◌-◌, ◌<◌, ◌≤◌, List, [], ◌∷◌, ◌++◌, length, length-append, length-set, take, drop, ap, ap₂, sym}
use Rattle.std.proofs.Common.{subst, arith}
use Rattle.std.specs.Prelude.{slice_index_or, slice_set}
use Rattle.std.proofs.Math.Seq.{drop-cons}
use Rattle.vr_model.specs.routes.Routes.{route}
use Rattle.vr_model.specs.moves.Moves.{with_route}
use Rattle.vr_model.specs.declared.records.Model.{Model}
use Rattle.vr_model.proofs.routes.Lists.{route_set_other}
use Rattle.vr_earliest.specs.declared.ways.Rest.{Rest}
use Rattle.vr_earliest.specs.declared.ways.Way.{Way}
use Rattle.vr_earliest.specs.Entries.{back_from, AreEntries}
use Rattle.vr_earliest.specs.Rests.{rest_of}
use Rattle.vr_earliest.specs.Ways.{way_along}
use Rattle.vr_parts.proofs.RowLemmas.{rows-push, set-at}
use Rattle.vr_earliest.specs.Kept.{HasWays, HaveWays, KeptWays}

-- ---- place by place

-- entries up to n, of which this is the last one
pub record HaveCome {A : Type 0} (f : ℕ → A) (n : ℕ) (entries : List A) (last : A) : Type 0 where
  pub are : AreEntries f n entries
  pub last_is : last ≡ f n

-- one entry more, which a step makes of the last one
pub come-on : {A : Type 0} (f : ℕ → A) (step : A → A) (n : ℕ) → step (f n) ≡ f (n + 1) → {xs more : List A} {x y : A}
    → AreEntries f n xs → x ≡ f n → y ≡ step x → more ≡ xs ++ y ∷ [] → HaveCome f (n + 1) more y
come-on f step n next {xs} {more} {x} {y} are at is pushed =
    let here = is ∙ ap step at ∙ next in
    record {
      are = record {
        many = (ap length pushed ∙ length-append xs (y ∷ []) ∙ (let e : length xs + 1 ≡ suc (n + 1) = omega (arith, are.many) in e));
        each = λ k other high. rows-push (λ j z. z ≡ f j) other xs more y (n + 1) (omega (arith, are.many))
            (λ j less. are.each j other (omega (arith, less))) here pushed k (omega (arith, high));
      };
      last_is = here;
    }

-- what is left from one place on, by what is left from the next one on
pub rest-next : {R : Type 0} (end : R) (before : ℕ → R → R) (list : List ℕ) (k : ℕ) → k < length list
    → back_from end before (drop (length list - (k + 1)) list)
    ≡ before (slice_index_or list (length list - 1 - k) 0) (back_from end before (drop (length list - k) list))
rest-next end before list k low =
    let here : length list - (k + 1) ≡ length list - 1 - k = omega (arith, low) in
    let next : suc (length list - (k + 1)) ≡ length list - k = omega (arith, low) in
    ap (back_from end before) (drop-cons list (length list - (k + 1)) 0 (omega (arith, low)))
    ∙ ap₂ (λ i n. before (slice_index_or list i 0) (back_from end before (drop n list))) here next

-- what is kept of the list of a vehicle
pub kept-one : (model : Model) (d : ℕ) (lists : List (List ℕ)) (kept : List KeptWays) (v : ℕ) (one : KeptWays)
    → HaveWays model d lists kept → v < length kept → one ≡ slice_index_or kept v one → HasWays model d v (route lists v) one
kept-one model d lists kept v one h low is = subst (HasWays model d v (route lists v)) (sym is) (h.each v one low)

-- the way along the first visits of a list, and what is left behind a place of it
pub way-at : (model : Model) (d v : ℕ) (list : List ℕ) (kept : KeptWays) (k : ℕ) (way : Way) → HasWays model d v list kept
    → k ≤ length list → ((other : Way) → way ≡ slice_index_or kept.ways.items k other) → way ≡ way_along model d v (take k list)
way-at model d v list kept k way h low is = is way ∙ h.ways.each k way low

pub rest-at : (model : Model) (d v : ℕ) (list : List ℕ) (kept : KeptWays) (k : ℕ) (rest : Rest) → HasWays model d v list kept
    → k ≤ length list → ((other : Rest) → rest ≡ slice_index_or kept.rests.items (length kept.rests.items - 1 - k) other)
    → rest ≡ rest_of model d v (drop k list)
rest-at model d v list kept k rest h low is =
    let here : length kept.rests.items - 1 - k ≡ length list - k = omega (arith, h.rests.many) in
    let back : length list - (length list - k) ≡ k = omega (arith, low) in
    is rest ∙ ap (λ n. slice_index_or kept.rests.items n rest) here
    ∙ h.rests.each (length list - k) rest (omega arith) ∙ ap (λ n. rest_of model d v (drop n list)) back

-- ---- a list is replaced

pub kept-set : (model : Model) (d : ℕ) (lists : List (List ℕ)) (kept : List KeptWays) (v : ℕ) (list : List ℕ) (new : KeptWays)
    → HaveWays model d lists kept → v < length lists → v < length kept → HasWays model d v list new
    → HaveWays model d (with_route lists v list) (slice_set kept v new)
kept-set model d lists kept v list new h known low is = record {
  many = elim h.many [
    | inl same ↦ inl (length-set kept v new ∙ same ∙ sym (length-set lists v list))
    | inr none ↦ inr none
  ];
  none = λ unpaid. length-set kept v new ∙ h.none unpaid;
  each = λ u other under. set-at (HasWays model d) lists kept v list new low is u other
      (λ _. known) (λ _. h.each u other (let l = length-set kept v new in omega (arith, under, l)));
}

-- where it is not kept, what is kept stays
pub kept-stays : (model : Model) (d : ℕ) (lists : List (List ℕ)) (kept : List KeptWays) (v : ℕ) (list : List ℕ)
    → HaveWays model d lists kept → length kept ≤ v → HaveWays model d (with_route lists v list) kept
kept-stays model d lists kept v list h high = record {
  many = elim h.many [
    | inl same ↦ inl (same ∙ sym (length-set lists v list))
    | inr none ↦ inr none
  ];
  none = h.none;
  each = λ u other under. subst (λ l. HasWays model d u l (slice_index_or kept u other))
      (sym (route_set_other lists v u list (λ e. absurd (omega (arith, e, under, high))))) (h.each u other under);
}
