-- What pieces tell of the visits of a list, where all visits of the list before pass a test.
use Rattle.std.proofs.Common.{◌≡◌, ◌∙◌, ℕ, ◌-◌, Bool, List, [], ◌∷◌, ◌++◌, take, drop, refl, sym, ap, ap₂}
use Rattle.std.specs.Prelude.{IsTrue, ◌&&◌}
use Rattle.std.specs.List.{list_all}
use Rattle.std.proofs.lemmas.List.{take-append-drop}
use Rattle.std.proofs.lemmas.List.Concat.{flat_map-cons}
use Rattle.std.proofs.lemmas.List.Folds.{list_all-append}
use Rattle.std.proofs.Math.Bool.{and-true}
use Rattle.vr_model.specs.deciding.Testing.{and_left, and_right}
use Rattle.vr_model.specs.routes.Routes.{route}
use Rattle.vr_routes.specs.Pieces.{joined, nodes_of}
use Rattle.vr_routes.specs.declared.pieces.Piece.{Piece}
use Rattle.vr_routes.specs.declared.pieces.Piece.TheVariants.{Chain}
use Rattle.vr_pathfilters.proofs.GroupLemmas.{all-chain}

module _ (p : ℕ → Bool) where
  -- the two parts of a list at a place
  parted : (xs : List ℕ) (k : ℕ) → IsTrue (list_all p xs) → IsTrue (list_all p (take k xs) && list_all p (drop k xs))
  parted xs k all = sym (list_all-append p (take k xs) (drop k xs)) ∙ (ap (list_all p) (take-append-drop k xs) ∙ all)

  pub all-take : (xs : List ℕ) (k : ℕ) → IsTrue (list_all p xs) → IsTrue (list_all p (take k xs))
  all-take xs k all = and_left (list_all p (take k xs)) (list_all p (drop k xs)) (parted xs k all)

  pub all-drop : (xs : List ℕ) (k : ℕ) → IsTrue (list_all p xs) → IsTrue (list_all p (drop k xs))
  all-drop xs k all = and_right (list_all p (take k xs)) (list_all p (drop k xs)) (parted xs k all)

  -- a chain of the list
  pub all-of_chain : (lists : List (List ℕ)) (v from to : ℕ) (reversed : Bool)
      → IsTrue (list_all p (route lists v)) → IsTrue (list_all p (nodes_of lists (Chain v from to reversed)))
  all-of_chain lists v from to reversed all =
      all-chain p lists v from to reversed ∙ all-take (drop from (route lists v)) (to - from) (all-drop (route lists v) from all)

  -- pieces that are joined
  pub all-joined : (lists : List (List ℕ)) (pieces : List Piece)
      → list_all p (joined lists pieces) ≡ list_all (λ piece. list_all p (nodes_of lists piece)) pieces
  all-joined lists [] = refl
  all-joined lists (x ∷ xs) =
      ap (list_all p) (flat_map-cons (nodes_of lists) x xs) ∙ (list_all-append p (nodes_of lists x) (joined lists xs)
      ∙ ap (λ b. list_all p (nodes_of lists x) && b) (all-joined lists xs))

  -- a list that keeps the front and the end of another one
  pub all-spliced : (old middle : List ℕ) (front behind : ℕ) → IsTrue (list_all p old)
      → list_all p (take front old ++ (middle ++ drop behind old)) ≡ list_all p middle
  all-spliced old middle front behind all =
      list_all-append p (take front old) (middle ++ drop behind old)
      ∙ (ap₂ (λ a b. a && b) (all-take old front all) (list_all-append p middle (drop behind old)
      ∙ ap (λ b. list_all p middle && b) (all-drop old behind all))
      ∙ and-true (list_all p middle))
