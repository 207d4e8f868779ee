-- The first of offers in their order, found one by one.
use Rattle.std.proofs.Common.{◌≡◌, ◌∙◌, ◌<◌, ◌++◌, ℕ, List, [], ◌∷◌, Bool, true, false, cond, Option, Some, None, refl, ap, ap₂, sym, subst, arith, length, ℤ}
use Rattle.std.proofs.Common.{pos}
use Rattle.std.specs.Prelude.{◌&&◌, ◌||◌, ◌+ℤ◌, ◌-ℤ◌, ◌<ℤ◌, int_le, int_lt, is_some, option_to_list, IfSome}
use Rattle.std.specs.Option.{option_map}
use Rattle.std.proofs.lemmas.Int.{ints}
use Rattle.std.proofs.lemmas.List.{append-nil}
use Rattle.vr_model.specs.declared.records.Model.{Model}
use Rattle.vr_model.proofs.tables.Tests.{clash}
use Rattle.vr_model.specs.tables.Numbers.{is_lex_less}
use Rattle.vr_model.specs.tables.Tables.{vehicle_at}
use Rattle.vr_model.specs.routes.Routes.{is_empty, route}
use Rattle.vr_model.specs.first.CheapestInsertion.{Insertion}
use Rattle.vr_strings.specs.Sorting.{put_by, sorted_by}
use Rattle.vr_ruin.specs.declared.placing.Offer.{Offer}
use Rattle.vr_ruin.specs.declared.ranking.Priced.{Priced}
use Rattle.vr_ruin.specs.Cheapest.{cheaper_of, first_in, fixed_beside, limit_of, IsCheapest, IsOfferWithin}
use Rattle.vr_ruin.specs.Makings.{IsRanked}
use Rattle.vr_ruin.specs.Offers.{offer, price_of, rank_key}
use Rattle.vr_ruin.specs.Placings.{insertion_of, no_more_than}
use Rattle.vr_ruin.specs.Ranks.{insertion_at, rank_of}
use Rattle.vr_ruin.specs.Timeless.{is_timeless, AddsToArcs}
use Rattle.vr_ruin.proofs.TimelessLemmas.{price-unused, price-used}

-- ---- tests of numbers

comes-first : (x y : ℤ) (rest : Bool) → x <ℤ y → (int_lt x y || (int_le x y && rest)) ≡ true
comes-first x y rest less = Prim.grind (arith, ints)

is-over : (x limit : ℤ) → int_le x limit ≡ false → limit <ℤ x
is-over x limit e = Prim.grind (arith, ints)

-- ---- an offer within a limit

-- one that is given is the offer of the vehicle
pub given-is : {model : Model} {lists : List (List ℕ)} {item : List ℕ} {v : ℕ} {limit : Option ℤ} (o : Offer) → IsOfferWithin model lists item v limit (Some o)
    → (option_map insertion_of (Some o) ≡ offer model lists item v) × AddsToArcs model lists o
given-is {model} {lists} {item} {v} {limit} o found = by found.best limit found.kept found.best_is found.adds
  where
    same : (b : Bool) (best : Offer) → Some o ≡ cond b (Some best) None → o ≡ best
    same true best e = cc
    same false best e = absurd (cc)

    is : (best : Offer) → o ≡ best → option_map insertion_of (Some best) ≡ offer model lists item v → AddsToArcs model lists best
        → (option_map insertion_of (Some o) ≡ offer model lists item v) × AddsToArcs model lists o
    is best e offered adds = (ap (λ x. option_map insertion_of (Some x)) e ∙ offered, subst (AddsToArcs model lists) (sym e) adds)

    by : (best : Option Offer) (limit : Option ℤ) → Some o ≡ no_more_than limit best
        → option_map insertion_of best ≡ offer model lists item v → IfSome best (AddsToArcs model lists)
        → (option_map insertion_of (Some o) ≡ offer model lists item v) × AddsToArcs model lists o
    by None None e offered adds = absurd (cc)
    by None (Some l) e offered adds = absurd (cc)
    by (Some best) None e offered adds = is best (cc) offered adds
    by (Some best) (Some l) e offered adds = is best (same (int_le best.increase l) best e) offered adds

module _ (model : Model) (lists : List (List ℕ)) where
  abbrev key : Insertion → List ℤ
  key = rank_key model lists

  -- the price of an offer where no schedules cost anything
  pub price-is : is_timeless model ≡ true → (o : Offer) → o.vehicle < length lists → AddsToArcs model lists o
      → o.increase +ℤ fixed_beside model lists o.vehicle ≡ price_of model lists (insertion_of o)
  price-is timeless o low adds = by (is_empty (route lists o.vehicle)) refl
    where
      by : (b : Bool) → is_empty (route lists o.vehicle) ≡ b → o.increase +ℤ fixed_beside model lists o.vehicle ≡ price_of model lists (insertion_of o)
      by true e = ap (λ b. o.increase +ℤ cond b (vehicle_at model o.vehicle).fixed (pos 0)) e ∙ price-unused model timeless lists o low adds e
      by false e =
          let none : fixed_beside model lists o.vehicle ≡ pos 0 = ap (λ b. cond b (vehicle_at model o.vehicle).fixed (pos 0)) e in
          let price = price-used model timeless lists o low adds e in
          omega (arith, ints, none, price)

  -- ---- one offer more

  -- an offer in its place among others in order
  pub first-put : (best : Option Priced) (next : Priced) (s : List Insertion)
      → IfSome best (IsCheapest model lists) → IsRanked model lists next → option_map insertion_at best ≡ first_in s
      → option_map insertion_at (Some (cheaper_of best next)) ≡ first_in (put_by key (insertion_at next) s)
  first-put None next [] is at e = refl
  first-put None next (y ∷ ys) is at e = absurd (cc)
  first-put (Some b) next [] is at e = absurd (cc)
  first-put (Some b) next (y ∷ ys) is at e =
      let same : insertion_at b ≡ y = cc in
      let less : is_lex_less (rank_of b) (rank_of next) ≡ is_lex_less (key y) (key (insertion_at next)) =
      ap₂ (λ p q. is_lex_less (p ∷ pos b.offer.vehicle ∷ []) (q ∷ pos next.offer.vehicle ∷ [])) is.ranked.price at.price
      ∙ ap (λ x. is_lex_less (key x) (key (insertion_at next))) same in
      ap (λ c. option_map insertion_at (Some (cond c b next))) less ∙ by (is_lex_less (key y) (key (insertion_at next))) same
    where
      by : (c : Bool) → insertion_at b ≡ y
          → option_map insertion_at (Some (cond c b next)) ≡ first_in (cond c (y ∷ put_by key (insertion_at next) ys) (insertion_at next ∷ y ∷ ys))
      by true same = ap Some same
      by false same = refl

  -- an offer after the first one
  past-first : (b : Priced) (x : Insertion) (s : List Insertion)
      → option_map insertion_at (Some b) ≡ first_in s → is_lex_less (key (insertion_at b)) (key x) ≡ true
      → option_map insertion_at (Some b) ≡ first_in (put_by key x s)
  past-first b x [] e less = absurd (cc)
  past-first b x (y ∷ ys) e less =
      let same : insertion_at b ≡ y = cc in
      e ∙ sym (ap (λ c. first_in (cond c (y ∷ put_by key x ys) (x ∷ y ∷ ys))) (ap (λ z. is_lex_less (key z) (key x)) (sym same) ∙ less))

  -- a vehicle whose offer cannot come first
  module _ (timeless : is_timeless model ≡ true) (item : List ℕ) (v : ℕ) (low : v < length lists) where
    over-limit : (b : Priced) (o : Offer) → IsCheapest model lists b → o.vehicle ≡ v
        → AddsToArcs model lists o → int_le o.increase (b.price -ℤ fixed_beside model lists v) ≡ false
        → is_lex_less (key (insertion_at b)) (key (insertion_of o)) ≡ true
    over-limit b o is same adds over =
        let price = price-is timeless o (subst (λ u. u < length lists) (sym same) low) adds in
        let fixed = ap (fixed_beside model lists) same in
        let more = is-over o.increase (b.price -ℤ fixed_beside model lists v) over in
        let here = is.ranked.price in
        comes-first (price_of model lists (insertion_at b)) (price_of model lists (insertion_of o)) _ (omega (arith, ints, price, fixed, more, here))

    pub none-first : (best : Option Priced) → IfSome best (IsCheapest model lists) → IsOfferWithin model lists item v (limit_of model lists v best) None
        → (xs : List Insertion) → option_map insertion_at best ≡ first_in (sorted_by key xs)
        → option_map insertion_at best ≡ first_in (sorted_by key (option_to_list (offer model lists item v) ++ xs))
    none-first best is found xs e = by best found.best is found.kept found.best_is found.vehicle_is found.adds e
      where
        over : (x : Bool) (o : Offer) → None ≡ cond x (Some o) None → x ≡ false
        over true o e = absurd (cc)
        over false o e = refl

        by : (best : Option Priced) (there : Option Offer) → IfSome best (IsCheapest model lists)
            → None ≡ no_more_than (limit_of model lists v best) there → option_map insertion_of there ≡ offer model lists item v
            → IfSome there (λ o. o.vehicle ≡ v) → IfSome there (AddsToArcs model lists)
            → option_map insertion_at best ≡ first_in (sorted_by key xs)
            → option_map insertion_at best ≡ first_in (sorted_by key (option_to_list (offer model lists item v) ++ xs))
        by best None is kept offered same adds e = e ∙ ap (λ o. first_in (sorted_by key (option_to_list o ++ xs))) offered
        by None (Some o) is kept offered same adds e = absurd (cc)
        by (Some b) (Some o) is kept offered same adds e =
            past-first b (insertion_of o) (sorted_by key xs) e
            (over-limit b o is same adds (over (int_le o.increase (b.price -ℤ fixed_beside model lists v)) o kept))
            ∙ ap (λ o. first_in (sorted_by key (option_to_list o ++ xs))) offered

    -- a vehicle with an offer
    pub some-first : (best : Option Priced) (next : Priced) → IfSome best (IsCheapest model lists)
        → IsRanked model lists next → option_map insertion_of (Some next.offer) ≡ offer model lists item v
        → (xs : List Insertion) → option_map insertion_at best ≡ first_in (sorted_by key xs)
        → option_map insertion_at (Some (cheaper_of best next)) ≡ first_in (sorted_by key (option_to_list (offer model lists item v) ++ xs))
    some-first best next is at offered xs e = first-put best next (sorted_by key xs) is at e
        ∙ ap (λ o. first_in (sorted_by key (option_to_list o ++ xs))) offered

  pub cheaper-is : (best : Option Priced) (next : Priced) → IfSome best (IsCheapest model lists)
      → IsCheapest model lists next → IsCheapest model lists (cheaper_of best next)
  cheaper-is None next is at = at
  cheaper-is (Some b) next is at = by (is_lex_less (rank_of b) (rank_of next))
    where
      by : (c : Bool) → IsCheapest model lists (cond c b next)
      by true = is
      by false = at

  -- ---- of the used vehicles, and of the others

  module _ (used others : List Insertion) where
    none-in : (xs : List Insertion) → None ≡ first_in (sorted_by key xs) → is_empty xs ≡ true
    none-in [] e = refl
    none-in (x ∷ xs) e = some (sorted_by key xs) e
      where
        some : (s : List Insertion) → None ≡ first_in (put_by key x s) → false ≡ true
        some [] e = absurd (cc)
        some (y ∷ ys) e = by (is_lex_less (key y) (key x)) e
          where
            by : (c : Bool) → None ≡ first_in (cond c (y ∷ put_by key x ys) (x ∷ y ∷ ys)) → false ≡ true
            by true e = absurd (cc)
            by false e = absurd (cc)

    some-in : (best : Priced) (xs : List Insertion) → option_map insertion_at (Some best) ≡ first_in (sorted_by key xs) → is_empty xs ≡ false
    some-in best [] e = absurd (cc)
    some-in best (x ∷ xs) e = refl

    pub used-first : (best : Priced) → option_map insertion_at (Some best) ≡ first_in (sorted_by key (used ++ []))
        → option_map insertion_at (Some best) ≡ first_in (sorted_by key (cond (false || is_empty used) (used ++ others) used))
    used-first best e =
        let same = ap (λ xs. first_in (sorted_by key xs)) (append-nil used) in
        e ∙ same ∙ sym (ap (λ b. first_in (sorted_by key (cond b (used ++ others) used))) (some-in best used (e ∙ same)))

    pub others-first : (best : Option Priced) → None ≡ first_in (sorted_by key (used ++ []))
        → option_map insertion_at best ≡ first_in (sorted_by key (others ++ []))
        → option_map insertion_at best ≡ first_in (sorted_by key (cond (false || is_empty used) (used ++ others) used))
    others-first best none e =
        e ∙ ap (λ xs. first_in (sorted_by key xs)) (append-nil others)
        ∙ by used (none-in used (none ∙ ap (λ xs. first_in (sorted_by key xs)) (append-nil used)))
      where
        by : (us : List Insertion) → is_empty us ≡ true
            → first_in (sorted_by key others) ≡ first_in (sorted_by key (cond (false || is_empty us) (us ++ others) us))
        by [] e = refl
        by (u ∷ us) e = absurd (cc)

    pub both-first : (best : Option Priced) → option_map insertion_at best ≡ first_in (sorted_by key (used ++ (others ++ [])))
        → option_map insertion_at best ≡ first_in (sorted_by key (used ++ others))
    both-first best e = e ∙ ap (λ os. first_in (sorted_by key (used ++ os))) (append-nil others)

    -- the used vehicles have an offer or not, as code asks it
    pub narrow-some : (best : Option Priced) → option_map insertion_at best ≡ first_in (sorted_by key (used ++ []))
        → (some : Bool) → some ≡ is_some best → some ≡ true
        → option_map insertion_at best ≡ first_in (sorted_by key (cond (false || is_empty used) (used ++ others) used))
    narrow-some None e some is there = absurd (clash some there is)
    narrow-some (Some best) e some is there = used-first best e

    pub narrow-none : (best : Option Priced) (last : Option Priced)
        → option_map insertion_at best ≡ first_in (sorted_by key (used ++ [])) → (some : Bool) → some ≡ is_some best → some ≡ false
        → option_map insertion_at last ≡ first_in (sorted_by key (others ++ []))
        → option_map insertion_at last ≡ first_in (sorted_by key (cond (false || is_empty used) (used ++ others) used))
    narrow-none None last e some is none f = others-first last e f
    narrow-none (Some best) last e some is none f = absurd (clash some is none)
