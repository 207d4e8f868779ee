-- Raising one arc after the other is raising all at once: an arc that was raised is worth less than the greatest, so it
-- is not raised again.
use Rattle.std.proofs.Common.{◌≡◌, ◌∙◌, ◌++◌, ℕ, suc, ◌+◌, ◌≤◌, Bool, true, false, cond, List, [], ◌∷◌, refl, sym, ap, arith}
use Rattle.std.specs.Prelude.{◌&&◌, ◌||◌, pos, int_lt}
use Rattle.std.specs.List.{list_all, list_any}
use Rattle.vr_model.specs.routes.Routes.{UsedArc, cost_of_arc, used_arcs}
use Rattle.vr_model.specs.search.GuidedSearches.{Penalties, has_costly_arc, raised}
use Rattle.vr_model.specs.declared.records.Model.{Model}
use Rattle.vr_descent.proofs.EndLemmas.{both}
use Rattle.vr_guided.specs.declared.worths.Worth.{Worth}
use Rattle.vr_guided.specs.Counts.{AtMost}
use Rattle.vr_guided.specs.Worths.{worth_of, is_no_more, greatest_worth, worthless, leads, increased, raised_once, raised_in_turn}
use Rattle.vr_guided.proofs.CountLemmas.{same_pair, increased_most}
use Rattle.vr_guided.proofs.WorthLemmas.{beaten, tells, greatest_is, greatest_costs}

no : {A : Type 0} → false ≡ true → A
no e = absurd (never e)
  where
    never : false ≡ true → ⊥
    never e = Prim.cc

-- one more where n, on a pair that is meant where l; c says that it has one more already
mix : (n l c m : Bool) (k : ℕ) → (l ≡ true → c ≡ true → n ≡ false) → (l ≡ true → c ≡ false → n ≡ m)
    → cond n (cond l (suc (cond c (suc k) k)) (cond c (suc k) k)) (cond c (suc k) k) ≡ cond (c || (l && m)) (suc k) k
mix false l true m k h j = refl
mix true false true m k h j = refl
mix true true true m k h j = no (sym (h refl refl))
mix false false false m k h j = refl
mix true false false m k h j = refl
mix true true false true k h j = refl
mix true true false false k h j = no (sym (j refl refl))
mix false true false true k h j = no (j refl refl)
mix false true false false k h j = refl

module _ (model : Model) (best : Worth) (some : int_lt (pos 0) best.cost ≡ true) (p : Penalties) where
  -- one more on these pairs
  abbrev up : (ℕ → ℕ → Bool) → Penalties
  up b origin target = cond (b origin target) (suc (p origin target)) (p origin target)

  -- an arc of the greatest worth leads from one node to another
  abbrev hits : ℕ → ℕ → UsedArc → Bool
  hits origin target arc = leads origin target arc && is_no_more best (worth_of model p arc)

  abbrev with_hits : (ℕ → ℕ → Bool) → UsedArc → ℕ → ℕ → Bool
  with_hits b arc origin target = b origin target || hits origin target arc

  chosen : (n : Bool) (f g : Penalties) (origin target : ℕ) → cond n f g origin target ≡ cond n (f origin target) (g origin target)
  chosen true f g origin target = refl
  chosen false f g origin target = refl

  module _ (b : ℕ → ℕ → Bool) (arc : UsedArc) (low : is_no_more (worth_of model p arc) best ≡ true) where
    -- an arc that was raised is worth less than the greatest
    was : (c : Bool) → b arc.origin arc.target ≡ c
        → is_no_more best (record { cost = cost_of_arc model arc; penalty = cond c (suc (p arc.origin arc.target)) (p arc.origin arc.target) })
        ≡ is_no_more best (worth_of model (up b) arc)
    was c e =
        ap (λ c. is_no_more best (record { cost = cost_of_arc model arc; penalty = cond c (suc (p arc.origin arc.target)) (p arc.origin arc.target) })) (sym e)

    there : (origin target : ℕ) → leads origin target arc ≡ true → b origin target ≡ b arc.origin arc.target
    there origin target l = let same = same_pair arc.origin arc.target origin target l in
        λ i. b (sym same.0 i) (sym same.1 i)

    at_pair : (origin target : ℕ) → raised_once model best (up b) arc origin target ≡ up (with_hits b arc) origin target
    at_pair origin target = chosen (is_no_more best (worth_of model (up b) arc)) (increased (up b) arc) (up b) origin target
        ∙ mix (is_no_more best (worth_of model (up b) arc)) (leads origin target arc)
        (b origin target) (is_no_more best (worth_of model p arc)) (p origin target)
        (λ l c. sym (was true (sym (there origin target l) ∙ c)) ∙ beaten (worth_of model p arc) best some low)
        (λ l c. sym (was false (sym (there origin target l) ∙ c)))

    once : raised_once model best (up b) arc ≡ up (with_hits b arc)
    once = λ i origin target. at_pair origin target i

  or_again : (x y z : Bool) → ((x || y) || z) ≡ (x || (y || z))
  or_again true y z = refl
  or_again false y z = refl

  or_none : (x : Bool) → x ≡ (x || false)
  or_none true = refl
  or_none false = refl

  in_turn : (b : ℕ → ℕ → Bool) (arcs : List UsedArc) → list_all (λ arc. is_no_more (worth_of model p arc) best) arcs ≡ true
      → raised_in_turn model best (up b) arcs ≡ up (λ origin target. b origin target || list_any (hits origin target) arcs)
  in_turn b [] low = λ i origin target. cond (or_none (b origin target) i) (suc (p origin target)) (p origin target)
  in_turn b (arc ∷ arcs) low =
      let parts = both (is_no_more (worth_of model p arc) best) (list_all (λ arc. is_no_more (worth_of model p arc) best) arcs) low in
      ap (λ q. raised_in_turn model best q arcs) (once b arc parts.0)
      ∙ (in_turn (with_hits b arc) arcs parts.1
      ∙ (λ i origin target. cond (or_again (b origin target) (hits origin target arc) (list_any (hits origin target) arcs) i)
      (suc (p origin target)) (p origin target)))

-- raising the arcs one after the other is raising those of the greatest worth
pub raised_all : (model : Model) (p : Penalties) (lists : List (List ℕ)) → has_costly_arc model lists ≡ true
    → raised_in_turn model (greatest_worth (worth_of model p) worthless (used_arcs model lists)) p (used_arcs model lists) ≡ raised model p lists
raised_all model p lists costly =
    in_turn model (greatest_worth (worth_of model p) worthless (used_arcs model lists))
    (greatest_costs (worth_of model p) (used_arcs model lists) costly) p (λ origin target. false) (used_arcs model lists)
    (greatest_is (worth_of model p) (used_arcs model lists) costly)
    ∙ sym
    (λ i origin target. cond
    (list_any (λ arc. leads origin target arc && tells (worth_of model p) (used_arcs model lists) costly (worth_of model p arc) i) (used_arcs model lists))
    (suc (p origin target)) (p origin target))

-- first some arcs, then others
pub in_turn_more : (model : Model) (best : Worth) (p : Penalties) (xs ys : List UsedArc)
    → raised_in_turn model best p (xs ++ ys) ≡ raised_in_turn model best (raised_in_turn model best p xs) ys
in_turn_more model best p [] ys = refl
in_turn_more model best p (x ∷ xs) ys = in_turn_more model best (raised_once model best p x) xs ys

-- an arc gets at most one more
pub once_most : (model : Model) (best : Worth) (p : Penalties) (arc : UsedArc) (most : ℕ) → AtMost most p → AtMost (most + 1) (raised_once model best p arc)
once_most model best p arc most few = go (is_no_more best (worth_of model p arc))
  where
    go : (n : Bool) → AtMost (most + 1) (cond n (increased p arc) p)
    go true = increased_most p arc most few
    go false = record { each = λ a b. (let k = few.each a b in omega (arith, k)) }

-- the same of what the penalties are after it
pub once_within : (model : Model) (best : Worth) (p q : Penalties) (arc : UsedArc) (most limit : ℕ)
    → q ≡ raised_once model best p arc → AtMost most p → most + 1 ≤ limit → AtMost limit q
once_within model best p q arc most limit e few low =
    record { each = λ a b. (let k = (once_most model best p arc most few).each a b in let same = ap (λ f. f a b) e in omega (arith, k, same, low)) }

pub at_most_more : (p : Penalties) (most limit : ℕ) → most ≤ limit → AtMost most p → AtMost limit p
at_most_more p most limit low few = record { each = λ a b. (let k = few.each a b in omega (arith, k, low)) }
