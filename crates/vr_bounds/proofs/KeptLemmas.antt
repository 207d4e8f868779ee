-- What is kept of vehicles, and stays so where one bound or one list is another.
use Rattle.std.proofs.Common.{◌≡◌, ◌≢◌, ◌∙◌, ℕ, ◌+◌, ◌<◌, ◌≤◌, ◌⊎◌, inl, inr, zero, suc, List, [], ◌∷◌, length, length-set, refl, sym, subst, arith}
use Rattle.std.specs.Prelude.{All, slice_index_or, slice_set}
use Rattle.std.proofs.lemmas.List.{get_or-set_same, get_or-set_other, get_or_default}
use Rattle.vr_model.specs.declared.records.Model.{Model}
use Rattle.vr_model.specs.routes.Routes.{route}
use Rattle.vr_parts.proofs.RowLemmas.{same-or-not}
use Rattle.vr_bounds.specs.declared.puts.Bound.{Bound}
use Rattle.vr_bounds.specs.declared.puts.Puts.{Puts}
use Rattle.vr_bounds.specs.Kept.{next_age, no_puts, unknown, AreAllPuts, ArePuts, IsLeast, IsPutsOf, IsUpTo, MayStand}
use Rattle.vr_bounds.proofs.AgeLemmas.{next-further}

-- what holds of each entry holds where one is another of which it holds
pub set-each : {A : Type 0} (P : ℕ → A → Type 0) (rows : List A) (k : ℕ) (new d : A) → k < length rows → P k new
    → (j : ℕ) → P j (slice_index_or rows j d) → P j (slice_index_or (slice_set rows k new) j d)
set-each P rows k new d low is j old = go (same-or-not j k)
  where
    go : (j ≡ k) ⊎ (j ≢ k) → P j (slice_index_or (slice_set rows k new) j d)
    go (inr other) = subst (P j) (sym (get_or-set_other rows k j new d other)) old
    go (inl same) = subst (λ i. P i (slice_index_or (slice_set rows k new) i d)) (sym same) (subst (P k) (sym (get_or-set_same rows k new d low)) is)

module _ (model : Model) (v : ℕ) where
  -- of a vehicle without visits
  pub fresh : (bounds : List Bound) → length bounds ≡ model.nodes → ((node : ℕ) → node < model.nodes → (slice_index_or bounds node unknown).stamp ≡ 0)
      → IsPutsOf model v [] (record { row = []; ages = 1 ∷ []; clock = 1; bounds = bounds })
  fresh bounds all none = record {
    row = refl;
    kept = record {
      nodes = λ k d low. absurd (omega (arith, low));
      few = omega arith;
      gaps = refl;
      all = all;
      born = one;
      shown = only;
      past = λ node known. (let n = none node known in omega (arith, n));
      least = λ node known some. absurd (omega (arith, some));
    };
  }
    where
      one : (place : ℕ) → place ≤ 0 → 1 ≤ slice_index_or (1 ∷ []) place 0
      one zero low = omega arith
      one (suc k) low = absurd (omega (arith, low))

      only : (place : ℕ) → place ≤ 0 → slice_index_or (1 ∷ []) place 0 ≤ 1
      only zero low = omega arith
      only (suc k) low = absurd (omega (arith, low))

  module _ (puts : Puts) (are : ArePuts model v puts) where
    -- with another list
    pub followed : (row ages : List ℕ) (clock : ℕ) → clock ≡ next_age puts.clock
        → All (λ node. node < model.nodes) row → length row ≤ 1000 → length ages ≡ length row + 1
        → ((place : ℕ) → place ≤ length row → MayStand model v puts row place (slice_index_or ages place 0))
        → ArePuts model v (record { row = row; ages = ages; clock = clock; bounds = puts.bounds })
    followed row ages clock is nodes few gaps each = record {
      nodes = nodes;
      few = few;
      gaps = gaps;
      all = are.all;
      born = λ place low. (each place low).born;
      shown = λ place low. (let s = (each place low).shown in omega (arith, s, is));
      past = λ node known. (let p = are.past node known in let n = subst (λ x. x ≤ next_age x) (sym is) (next-further puts.clock) in omega (arith, p, is, n));
      least = λ node known some place low older. (each place low).least node known some older;
    }

    -- with another bound of a node
    pub renewed : (node : ℕ) → node < model.nodes → (bound : Bound) → bound.stamp < next_age puts.clock → IsUpTo model v puts.row node bound.least
        → ArePuts model v (record { row = puts.row; ages = puts.ages; clock = puts.clock; bounds = slice_set puts.bounds node bound })
    renewed node known bound young is = record {
      nodes = are.nodes;
      few = are.few;
      gaps = are.gaps;
      all = length-set puts.bounds node bound ∙ are.all;
      born = are.born;
      shown = are.shown;
      past = λ other low. set-each (λ k b. b.stamp < next_age puts.clock) puts.bounds node bound unknown there young other (are.past other low);
      least = λ other low some. set-each (λ k b. IsLeast model v puts k b) puts.bounds node bound
          unknown there (λ place within older. is place within) other (are.least other low some);
    }
      where
        there : node < length puts.bounds
        there = let all = are.all in omega (arith, all, known)

    -- a bound that is no older than the list holds of all gaps
    pub no-older : (node : ℕ) (bound : Bound) → puts.clock ≤ bound.stamp → IsLeast model v puts node bound → IsUpTo model v puts.row node bound.least
    no-older node bound low is place within = is place within (let s = are.shown place within in omega (arith, s, low))

-- what is kept of one vehicle
pub puts-at : (model : Model) (lists : List (List ℕ)) (puts : List Puts) (v : ℕ) (one : Puts)
    → AreAllPuts model lists puts → length puts ≡ length lists → v < length lists → one ≡ slice_index_or puts v one
    → IsPutsOf model v (route lists v) one
puts-at model lists puts v one are many low is =
    subst (IsPutsOf model v (route lists v)) (sym (is ∙ get_or_default puts v one no_puts (omega (arith, many, low)))) (are v low)

-- what is kept of one vehicle is other than it was
pub puts-set : (model : Model) (lists : List (List ℕ)) (puts : List Puts) (v : ℕ) (one : Puts)
    → AreAllPuts model lists puts → v < length puts → IsPutsOf model v (route lists v) one
    → AreAllPuts model lists (slice_set puts v one)
puts-set model lists puts v one are low is u known = set-each (λ k p. IsPutsOf model k (route lists k) p) puts v one no_puts low is u (are u known)
