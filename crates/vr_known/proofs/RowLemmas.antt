-- Each row of a neighbourhood has a stamp of its own.
use Rattle.std.proofs.Common.{◌≡◌, ◌∙◌, ℕ, zero, suc, ◌+◌, ◌<◌, Bool, true, false, ◌||◌, cond, List, [], ◌∷◌, refl, sym, ap, subst, arith}
use Rattle.std.specs.Prelude.{IsTrue}
use Rattle.std.proofs.lemmas.Bool.{false≢true}
use Rattle.vr_model.specs.deciding.Testing.{eq_of_test, test_of_eq}
use Rattle.vr_model.specs.moves.Kinds.{is_same_kind, rows_of}
use Rattle.vr_model.specs.moves.Moves.{all_neighbourhoods}
use Rattle.vr_model.specs.tables.WellFormed.{neighbourhood_number as number}
use Rattle.vr_model.specs.declared.neighbours.Neighbourhood.{Neighbourhood}
use Rattle.vr_model.specs.declared.neighbours.Neighbourhood.TheVariants as all
use Rattle.vr_known.specs.Blocks.{rows_before, stamp_of}

-- the neighbourhood of a number
neighbourhood_of : ℕ → Neighbourhood
neighbourhood_of zero = all.TwoOpt
neighbourhood_of (suc zero) = all.OrOpt
neighbourhood_of (suc (suc zero)) = all.Relocate
neighbourhood_of (suc (suc (suc zero))) = all.Exchange
neighbourhood_of (suc (suc (suc (suc zero)))) = all.Cross
neighbourhood_of (suc (suc (suc (suc (suc zero))))) = all.RelocatePair
neighbourhood_of (suc (suc (suc (suc (suc (suc zero)))))) = all.PairActive
neighbourhood_of (suc (suc (suc (suc (suc (suc (suc zero))))))) = all.PairInactive
neighbourhood_of (suc (suc (suc (suc (suc (suc (suc (suc zero)))))))) = all.MakeActive
neighbourhood_of (suc (suc (suc (suc (suc (suc (suc (suc (suc zero))))))))) = all.MakeInactive
neighbourhood_of n = all.SwapActive

numbered : (n : Neighbourhood) → neighbourhood_of (number n) ≡ n
unfolding neighbourhood_of
numbered all.TwoOpt = refl
numbered all.OrOpt = refl
numbered all.Relocate = refl
numbered all.Exchange = refl
numbered all.Cross = refl
numbered all.RelocatePair = refl
numbered all.PairActive = refl
numbered all.PairInactive = refl
numbered all.MakeActive = refl
numbered all.MakeInactive = refl
numbered all.SwapActive = refl

-- two neighbourhoods are the same if their test says so, and only then
pub same_kind : (n o : Neighbourhood) → IsTrue (is_same_kind n o) → n ≡ o
same_kind n o same = sym (numbered n) ∙ ap neighbourhood_of (eq_of_test (number n) (number o) same) ∙ numbered o

pub same_test : (n o : Neighbourhood) → n ≡ o → IsTrue (is_same_kind n o)
same_test n o same = test_of_eq (number n) (number o) (ap number same)

-- a neighbourhood is among some
abbrev is_among : Neighbourhood → List Neighbourhood → Bool
is_among kind [] = false
is_among kind (n ∷ ns) = is_same_kind n kind || is_among kind ns

-- each row has a place of its own among those of neighbourhoods
one_place : (ns : List Neighbourhood) (k kind : Neighbourhood) (u row : ℕ)
    → IsTrue (is_among k ns) → IsTrue (is_among kind ns) → u < rows_of k → row < rows_of kind
    → rows_before k ns + u ≡ rows_before kind ns + row → (k ≡ kind) × (u ≡ row)
one_place [] k kind u row among too low low_row same = absurd (false≢true among)
one_place (n ∷ ns) k kind u row among too low low_row same =
    by (is_same_kind n k) (is_same_kind n kind) (λ a b s. one_place ns k kind u row a b low low_row s) refl refl among too same
  where
    by : (b c : Bool) → (IsTrue (is_among k ns) → IsTrue (is_among kind ns) → rows_before k ns + u ≡ rows_before kind ns + row → (k ≡ kind) × (u ≡ row))
        → is_same_kind n k ≡ b → is_same_kind n kind ≡ c → IsTrue (b || is_among k ns) → IsTrue (c || is_among kind ns)
        → cond b 0 (rows_of n + rows_before k ns) + u ≡ cond c 0 (rows_of n + rows_before kind ns) + row → (k ≡ kind) × (u ≡ row)
    by true true later is is_too among too same = (sym (same_kind n k is) ∙ same_kind n kind is_too, omega (arith, same))
    by true false later is other among too same = absurd (
        let few : u < rows_of n = subst (λ m. u < rows_of m) (sym (same_kind n k is)) low in
        omega (arith, few, same))
    by false true later other is among too same = absurd (
        let few : row < rows_of n = subst (λ m. row < rows_of m) (sym (same_kind n kind is)) low_row in
        omega (arith, few, same))
    by false false later other other_too among too same = later among too (omega (arith, same))

each_among : (k : Neighbourhood) → IsTrue (is_among k all_neighbourhoods)
each_among all.TwoOpt = refl
each_among all.OrOpt = refl
each_among all.Relocate = refl
each_among all.Exchange = refl
each_among all.Cross = refl
each_among all.RelocatePair = refl
each_among all.PairActive = refl
each_among all.PairInactive = refl
each_among all.MakeActive = refl
each_among all.MakeInactive = refl
each_among all.SwapActive = refl

-- each row has a stamp of its own
pub one_stamp : (k : Neighbourhood) (u : ℕ) (kind : Neighbourhood) (row : ℕ) → u < rows_of k
    → row < rows_of kind → stamp_of k u ≡ stamp_of kind row → (k ≡ kind) × (u ≡ row)
one_stamp k u kind row low low_row same = one_place all_neighbourhoods k kind u row (each_among k) (each_among kind) low low_row same

pub stamp_within : (kind : Neighbourhood) (row : ℕ) → row < rows_of kind → stamp_of kind row < 1504
stamp_within all.TwoOpt row low = omega (arith, low)
stamp_within all.OrOpt row low = omega (arith, low)
stamp_within all.Relocate row low = omega (arith, low)
stamp_within all.Exchange row low = omega (arith, low)
stamp_within all.Cross row low = omega (arith, low)
stamp_within all.RelocatePair row low = omega (arith, low)
stamp_within all.PairActive row low = omega (arith, low)
stamp_within all.PairInactive row low = omega (arith, low)
stamp_within all.MakeActive row low = omega (arith, low)
stamp_within all.MakeInactive row low = omega (arith, low)
stamp_within all.SwapActive row low = omega (arith, low)
