-- Lists that are written as splices of the lists before them.
use Rattle.std.proofs.Common.{◌≡◌, ◌∙◌, ℕ, zero, suc, ◌+◌, ◌-◌, ◌<◌, ◌≤◌, false, List, [], ◌∷◌, ◌++◌, length, length-append, take, drop, refl, sym, ap, subst}
use Rattle.std.proofs.Common.{arith}
use Rattle.std.specs.Prelude.{All, slice_range}
use Rattle.std.proofs.lemmas.List.{append-nil}
use Rattle.std.proofs.lemmas.List.Elements.{All-append, All-nil}
use Rattle.std.proofs.lemmas.Slice.{between_from_start}
use Rattle.std.proofs.Math.Seq.{take-append_seam}
use Rattle.std.proofs.lemmas.Grind.{flat_map-append}
use Rattle.vr_model.specs.routes.Routes.{route}
use Rattle.vr_routes.specs.declared.pieces.Piece.{Piece}
use Rattle.vr_routes.specs.declared.pieces.Piece.TheVariants.{Chain}
use Rattle.vr_routes.specs.Pieces.{ListAfter, joined, middle_of, nodes_of, IsWithin, IsSplice}
use Rattle.vr_routes.specs.Changes.{IsAfter, IsPartBegun}
use Rattle.vr_routes.proofs.PieceLemmas.{slice_to_end}

-- one piece more
joined_more : (lists : List (List ℕ)) (pieces : List Piece) (piece : Piece) → joined lists (pieces ++ piece ∷ []) ≡ joined lists pieces ++ nodes_of lists piece
joined_more lists pieces piece = flat_map-append (nodes_of lists) pieces (piece ∷ []) ∙ ap (λ xs. joined lists pieces ++ xs) (append-nil (nodes_of lists piece))

all_one : {A : Type 0} (P : A → Type 0) (x : A) → P x → All P (x ∷ [])
all_one P x h zero d low = h
all_one P x h (suc k) d low = absurd (omega (arith, low))

all_more : {A : Type 0} (P : A → Type 0) (x : A) (xs : List A) → P x → All P xs → All P (x ∷ xs)
all_more P x xs h all = All-append P (x ∷ []) xs (all_one P x h) all

-- a list is begun
pub begun : (lists : List (List ℕ)) (part : ListAfter) (v front : ℕ) → part.vehicle ≡ v
    → part.front ≡ front → part.pieces ≡ Chain v 0 front false ∷ [] → IsPartBegun lists part v front []
begun lists part v front vehicle same pieces =
    record { vehicle_is = vehicle; front_is = same; middle = []; pieces_are = pieces; nodes_are = refl; each_within = All-nil (IsWithin lists) }

-- a piece is added
pub added : (lists : List (List ℕ)) (old new : ListAfter) (v front : ℕ) (nodes : List ℕ) (piece : Piece)
    → new.vehicle ≡ old.vehicle → new.front ≡ old.front → new.pieces ≡ old.pieces ++ piece ∷ []
    → IsWithin lists piece → IsPartBegun lists old v front nodes → IsPartBegun lists new v front (nodes ++ nodes_of lists piece)
added lists old new v front nodes piece vehicle same pieces within before = record {
  vehicle_is = vehicle ∙ before.vehicle_is;
  front_is = same ∙ before.front_is;
  middle = before.middle ++ piece ∷ [];
  pieces_are = pieces ∙ ap (λ ps. ps ++ piece ∷ []) before.pieces_are;
  nodes_are = joined_more lists before.middle piece ∙ ap (λ xs. xs ++ nodes_of lists piece) before.nodes_are;
  each_within = All-append (IsWithin lists) before.middle (piece ∷ []) before.each_within (all_one (IsWithin lists) piece within);
}

-- the end is added
pub ended : (lists : List (List ℕ)) (old new : ListAfter) (v front behind n : ℕ) (nodes : List ℕ)
    → new.vehicle ≡ old.vehicle → new.front ≡ old.front → new.behind ≡ behind
    → new.pieces ≡ old.pieces ++ Chain old.vehicle behind n false ∷ [] → v < length lists
    → n ≡ length (route lists v) → front ≤ behind → behind ≤ n → IsPartBegun lists old v front nodes
    → IsAfter lists new v (take front (route lists v) ++ (nodes ++ drop behind (route lists v)))
ended lists old new v front behind n nodes vehicle same from pieces low whole order high before = record {
  vehicle_is = is;
  list_is = ap (joined lists) are ∙ joins;
  each_within = subst (All (IsWithin lists)) (sym are) all_within;
  spliced = subst (λ w. IsSplice lists w new.pieces new.front new.behind (middle_of new.pieces)) (sym is)
      (subst (λ ps. IsSplice lists v ps new.front new.behind (middle_of ps)) (sym are)
      (subst (λ f. IsSplice lists v every f new.behind (middle_of every)) (sym (same ∙ before.front_is))
      (subst (λ b. IsSplice lists v every front b (middle_of every)) (sym from)
      (subst (IsSplice lists v every front behind) (sym middle_is) splice))));
}
  where
    list : List ℕ
    list = route lists v

    back : Piece
    back = Chain v behind n false

    middle : List Piece
    middle = before.middle

    every : List Piece
    every = Chain v 0 front false ∷ (middle ++ back ∷ [])

    is : new.vehicle ≡ v
    is = vehicle ∙ before.vehicle_is

    are : new.pieces ≡ every
    are = pieces
        ∙ (ap (λ ps. ps ++ Chain old.vehicle behind n false ∷ []) before.pieces_are
        ∙ ap (λ w. (Chain v 0 front false ∷ middle) ++ Chain w behind n false ∷ []) before.vehicle_is)

    kept : slice_range list behind n ≡ drop behind list
    kept = ap (slice_range list behind) whole ∙ slice_to_end list behind

    parts : joined lists every ≡ take front list ++ (joined lists middle ++ drop behind list)
    parts = ap (λ xs. xs ++ joined lists (middle ++ back ∷ [])) (between_from_start list front)
        ∙ ap (λ xs. take front list ++ xs) (joined_more lists middle back ∙ ap (λ xs. joined lists middle ++ xs) kept)

    joins : joined lists every ≡ take front list ++ (nodes ++ drop behind list)
    joins = parts ∙ ap (λ xs. take front list ++ (xs ++ drop behind list)) before.nodes_are

    all_within : All (IsWithin lists) every
    all_within = all_more (IsWithin lists) (Chain v 0 front false) (middle ++ back ∷ []) (low, omega arith, omega (arith, order, high, whole))
        (All-append (IsWithin lists) middle (back ∷ []) before.each_within (all_one (IsWithin lists) back (low, high, omega (arith, whole))))

    long : length every ≡ suc (length middle + 1)
    long = ap suc (length-append middle (back ∷ []))

    middle_is : middle_of every ≡ middle
    middle_is = ap (λ k. take (k - 1 - 1) (middle ++ back ∷ [])) long
        ∙ (ap (λ k. take k (middle ++ back ∷ [])) (let e : suc (length middle + 1) - 1 - 1 ≡ length middle = omega arith in e)
        ∙ take-append_seam middle (back ∷ []))

    splice : IsSplice lists v every front behind middle
    splice = record { order = order; high = omega (arith, high, whole); within = before.each_within; few = omega (arith, long); joins = parts }
