-- Changes of one or two parts.
use Rattle.std.proofs.Common.{◌≡◌, ◌≢◌, ◌∙◌, ℕ, zero, suc, ◌<◌, true, List, [], ◌∷◌, length, sym, ap, subst, arith}
use Rattle.std.specs.Prelude.{IsTrue, All, slice_set}
use Rattle.std.specs.List.{AllPairs}
use Rattle.vr_model.proofs.routes.Lists.{route_set_other, route_set_same}
use Rattle.std.proofs.lemmas.List.{set-get_or}
use Rattle.vr_model.proofs.moves.Changed.{moves_change_lists}
use Rattle.vr_model.specs.moves.MoveTests.{is_move}
use Rattle.vr_model.specs.routes.Routes.{route, are_lists}
use Rattle.vr_routes.proofs.TourLemmas.{set_twice}
use Rattle.vr_model.specs.moves.Moves.{apply, with_route}
use Rattle.vr_model.specs.declared.records.Model.{Model}
use Rattle.vr_model.specs.declared.neighbours.Move.{Move}
use Rattle.vr_routes.specs.Pieces.{ListAfter, joined, IsWithin, IsSpliced}
use Rattle.vr_routes.specs.Changes.{IsAfter, IsChange, IsOther}

all_one : {A : Type 0} (P : A → Type 0) (x : A) → P x → All P (x ∷ [])
all_one P x h zero d low = h
all_one P x h (suc k) d low = absurd (omega (arith, low))

all_two : {A : Type 0} (P : A → Type 0) (x y : A) → P x → P y → All P (x ∷ y ∷ [])
all_two P x y h g zero d low = h
all_two P x y h g (suc zero) d low = g
all_two P x y h g (suc (suc k)) d low = absurd (omega (arith, low))

pairs_one : {A : Type 0} (R : A → A → Type 0) (x : A) → AllPairs R (x ∷ [])
pairs_one R x i j d low high = absurd (omega (arith, low, high))

pairs_two : {A : Type 0} (R : A → A → Type 0) (x y : A) → R x y → AllPairs R (x ∷ y ∷ [])
pairs_two R x y h zero (suc zero) d low high = h
pairs_two R x y h i zero d low high = absurd (omega (arith, low))
pairs_two R x y h (suc i) (suc zero) d low high = absurd (omega (arith, low))
pairs_two R x y h i (suc (suc j)) d low high = absurd (omega (arith, high))

-- a move that is read as one of a kind
pub read_as : (model : Model) (lists : List (List ℕ)) {mv kind : Move} → mv ≡ kind → is_move model lists mv ≡ true → is_move model lists kind ≡ true
read_as model lists is h = subst (λ m. is_move model lists m ≡ true) is h

pub change_as : {model : Model} {lists : List (List ℕ)} {mv kind : Move} {parts : List ListAfter}
    → mv ≡ kind → IsChange model lists kind parts → IsChange model lists mv parts
change_as {model} {lists} {mv} {kind} {parts} is h = subst (λ m. IsChange model lists m parts) (sym is) h

put : (lists base : List (List ℕ)) (part : ListAfter) (v : ℕ) (list : List ℕ) → IsAfter lists part v list
    → with_route base part.vehicle (joined lists part.pieces) ≡ with_route base v list
put lists base part v list h = ap (λ w. with_route base w (joined lists part.pieces)) h.vehicle_is ∙ ap (with_route base v) h.list_is

own_list : (lists : List (List ℕ)) (part : ListAfter) (v : ℕ) (list : List ℕ)
    → IsAfter lists part v list → joined lists part.pieces ≡ route lists part.vehicle → list ≡ route lists v
own_list lists part v list h same = sym h.list_is ∙ same ∙ ap (route lists) h.vehicle_is

pub one_part : (model : Model) (lists : List (List ℕ)) (mv : Move) (part : ListAfter) (v : ℕ) (list : List ℕ) → v < length lists → IsAfter lists part v list
    → with_route lists v list ≡ apply model lists mv → is_move model lists mv ≡ true → IsChange model lists mv (part ∷ [])
one_part model lists mv part v list low h e is_one = record {
  parts_are = record {
    each_vehicle = all_one (λ p. p.vehicle < length lists) part (subst (λ w. w < length lists) (sym h.vehicle_is) low);
    each_within = all_one (λ p. All (IsWithin lists) p.pieces) part h.each_within;
    each_spliced = all_one (IsSpliced lists) part h.spliced;
    apart = pairs_one (λ p q. p.vehicle ≢ q.vehicle) part;
  };
  lists_are = put lists lists part v list h ∙ e;
  each_changes = λ are. all_one (IsOther lists) part (λ same. moves_change_lists model lists mv are is_one
      (sym e ∙ ap (with_route lists v) (own_list lists part v list h same) ∙ set-get_or lists v []));
}

pub two_parts : (model : Model) (lists : List (List ℕ)) (mv : Move) (part other : ListAfter) (v w : ℕ) (list second : List ℕ)
    → v < length lists → w < length lists → v ≢ w
    → IsAfter lists part v list → IsAfter lists other w second
    → with_route (with_route lists v list) w second ≡ apply model lists mv
    → (IsTrue (are_lists model lists) → list ≢ route lists v)
    → (IsTrue (are_lists model lists) → second ≢ route lists w) → IsChange model lists mv (part ∷ other ∷ [])
two_parts model lists mv part other v w list second low low_w differ h g e first_changes second_changes = record {
  parts_are = record {
    each_vehicle = all_two (λ p. p.vehicle < length lists) part other
        (subst (λ u. u < length lists) (sym h.vehicle_is) low) (subst (λ u. u < length lists) (sym g.vehicle_is) low_w);
    each_within = all_two (λ p. All (IsWithin lists) p.pieces) part other h.each_within g.each_within;
    each_spliced = all_two (IsSpliced lists) part other h.spliced g.spliced;
    apart = pairs_two (λ p q. p.vehicle ≢ q.vehicle) part other (λ same. differ (sym h.vehicle_is ∙ same ∙ g.vehicle_is));
  };
  lists_are = ap (λ base. with_route base other.vehicle (joined lists other.pieces)) (put lists lists part v list h)
      ∙ put lists (with_route lists v list) other w second g ∙ e;
  each_changes = λ are. all_two (IsOther lists) part other (λ same. first_changes are (own_list lists part v list h same))
      (λ same. second_changes are (own_list lists other w second g same));
}

-- two nodes of one list, and of two lists, change places
pub exchanged_within : (lists : List (List ℕ)) (v w a b y x : ℕ) → v ≡ w
    → v < length lists → slice_set lists v (slice_set (slice_set (route lists v) a y) b x)
    ≡ slice_set (slice_set lists v (slice_set (route lists v) a y)) w (slice_set (route (slice_set lists v (slice_set (route lists v) a y)) w) b x)
exchanged_within lists v w a b y x same low =
    let once : List ℕ = slice_set (route lists v) a y in
    let first : List (List ℕ) = slice_set lists v once in
    sym (set_twice lists v once (slice_set once b x))
    ∙ ap (λ l. slice_set first v (slice_set l b x)) (sym (route_set_same lists v once low))
    ∙ ap (λ u. slice_set first u (slice_set (route first u) b x)) same

pub exchanged_between : (lists : List (List ℕ)) (v w b x : ℕ) (list : List ℕ) → v ≢ w → slice_set (slice_set lists v list) w (slice_set (route lists w) b x)
    ≡ slice_set (slice_set lists v list) w (slice_set (route (slice_set lists v list) w) b x)
exchanged_between lists v w b x list apart =
    ap (λ l. slice_set (slice_set lists v list) w (slice_set l b x)) (sym (route_set_other lists v w list (λ e. apart (sym e))))
