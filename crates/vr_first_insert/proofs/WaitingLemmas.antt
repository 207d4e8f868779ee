-- Items that wait, and what is known of the best insertion of each into any list.
use Rattle.std.proofs.Common.{◌≡◌, ◌∙◌, ◌<◌, ◌≤◌, ◌+◌, ◌++◌, ℕ, zero, suc, List, [], ◌∷◌, Bool, true, false, cond, All, Option, Some, None, ℤ, pos, ◌≤ℤ◌, refl}
use Rattle.std.proofs.Common.{ap, sym, subst, inl, inr, arith, length, length-set, get_or, take}
use Rattle.std.specs.Prelude.{◌&&◌, ◌||◌, ◌-◌, ◌^◌, IfSome, filter, map, not, int_le, int_lt, nat_le, nat_lt, slice_set}
use Rattle.std.proofs.lemmas.Bool.{cases_lt}
use Rattle.std.proofs.lemmas.Bool.Decides.{eqb_tells}
use Rattle.std.proofs.lemmas.Int.{ints}
use Rattle.std.proofs.lemmas.List.{append-nil, get_or_default, get_or-map, length-map, map-append, take_all, take_more}
use Rattle.std.proofs.lemmas.List.Elements.{filter-append}
use Rattle.std.proofs.Math.Seq.{map-set_same}
use Rattle.vr_model.specs.declared.records.Model.{Model}
use Rattle.vr_model.specs.first.Items.{first_node, items, unplaced}
use Rattle.vr_model.specs.moves.Moves.{with_route}
use Rattle.vr_model.specs.routes.Routes.{holds, is_active, route}
use Rattle.vr_model.specs.tables.Numbers.{is_lex_less}
use Rattle.vr_model.proofs.first.LexOrder.{less_self}
use Rattle.vr_model.proofs.routes.Lists.{route_set_other}
use Rattle.vr_model.proofs.tables.Tests.{clash}
use Rattle.vr_rules.specs.declared.items.Candidate.{Candidate}
use Rattle.vr_rules.specs.Placing.{is_marked, item_nodes, AreBuilt, AreCandidates, AreMarks, IsCandidate}
use Rattle.vr_rules.proofs.LocalOpenness.{is_active-added}
use Rattle.vr_first_insert.specs.declared.choice.InsertionChoice.{InsertionChoice}
use Rattle.vr_first_insert.specs.declared.waiting.WaitingItem.{WaitingItem}
use Rattle.vr_first_insert.specs.Kept.{candidate_at, BestAddsAtLeast}
use Rattle.vr_first_insert.specs.Placings.{best_beside, best_in, best_in_lists, key_of, may_be_placed, may_improve, tail_key, MayHold}
use Rattle.vr_first_insert.specs.Waiting.{comes_later, is_passed_over, is_unmarked, least_told, unplaced_of, unread_waiting, waiting_at, waiting_candidates}
use Rattle.vr_first_insert.specs.Waiting.{with_waiting, AreFirstWaiting, AreWaiting, IsLeastAnywhere, IsLeastElsewhere, IsWaiting, IsWaitingElsewhere}
use Rattle.vr_first_insert.proofs.BestLemmas.{first-below}
use Rattle.vr_first_insert.proofs.InsertLemmas.{best_in_lists-more}
use Rattle.vr_first_insert.proofs.KeptLemmas.{no-better}
use Rattle.vr_first_insert.proofs.LeastMerged.{less-trans, merged_best, not_less-trans}
use Rattle.vr_first_insert.proofs.PlacedLemmas.{MayHold-inactive}
use Rattle.vr_first_insert.proofs.ToldLemmas.{best-class, bound-passed_over, in-merged, less-self}

-- ---- an item that is passed over

abbrev least_of : Option InsertionChoice → ℤ
least_of None = pos 0
least_of (Some found) = found.increase

adds-least : (found : Option InsertionChoice) → IfSome found (λ choice. least_of found ≤ℤ choice.increase)
adds-least None = tt
adds-least (Some found) = omega (arith, ints)

may-not : (n c : ℕ) (l b : ℤ) → nat_lt c n ≡ true → (nat_lt n c || (nat_le n c && int_le l b)) ≡ false
may-not n c l b h = Prim.grind arith

later-in : (model : Model) (v : ℕ) (list : List ℕ) (candidate : Candidate) (best : Option InsertionChoice)
    → comes_later best candidate.class ≡ true → best ≡ best_in model v list candidate best
later-in model v list candidate None h = absurd (clash false h refl)
later-in model v list candidate (Some best) h =
    let found = best_in model v list candidate None in
    bound-passed_over model v list candidate (Some best) (least_of found) (adds-least found)
    (may-not candidate.class best.class (least_of found) best.increase h)

module _ (model : Model) (lists : List (List ℕ)) (candidate : Candidate) where
  passed-in : (least : Option ℤ) (best : Option InsertionChoice) → IsLeastAnywhere model lists candidate least
      → is_passed_over best candidate.class least ≡ true → (v : ℕ) → v < length lists
      → best ≡ best_in model v (route lists v) candidate best
  passed-in None best is h v low = later-in model v (route lists v) candidate best h
  passed-in (Some least) best is h v low =
      bound-passed_over model v (route lists v) candidate best least (is v low) (no-better (may_improve best candidate.class least) h)

  passed-lists : (least : Option ℤ) (best : Option InsertionChoice) → IsLeastAnywhere model lists candidate least
      → is_passed_over best candidate.class least ≡ true → (n : ℕ) → n ≤ length lists
      → best ≡ best_in_lists model lists candidate n best
  passed-lists least best is h zero within = refl
  passed-lists least best is h (suc n) within =
      let next : n + 1 ≡ suc n = omega arith in
      subst (λ m. best ≡ best_in_lists model lists candidate m best) next
      (passed-in least best is h n (omega (arith, within))
      ∙ ap (best_in model n (route lists n) candidate) (passed-lists least best is h n (omega (arith, within)))
      ∙ sym (best_in_lists-more model lists candidate n best))

  -- where what is known passes an item over, the best so far is the best beside it
  pub passed-beside : (marks : List Bool) (least : Option ℤ) (best : Option InsertionChoice)
      → IsLeastAnywhere model lists candidate least → is_passed_over best candidate.class least ≡ true
      → best ≡ best_beside model lists marks candidate best
  passed-beside marks least best is h = by (may_be_placed model marks candidate) (passed-lists least best is h (length lists) (omega arith))
    where
      by : (b : Bool) → best ≡ best_in_lists model lists candidate (length lists) best
          → best ≡ cond b (best_in_lists model lists candidate (length lists) best) best
      by true e = e
      by false e = refl

-- ---- what all lists tell

-- a choice that does not come before the best
abbrev IsBeaten : Option InsertionChoice → InsertionChoice → Type 0
IsBeaten None choice = ⊥
IsBeaten (Some best) choice = is_lex_less (key_of choice) (key_of best) ≡ false

not_less-back : (x y : List ℤ) → is_lex_less x y ≡ true → is_lex_less y x ≡ false
not_less-back x y h = by (is_lex_less y x) refl
  where
    by : (b : Bool) → is_lex_less y x ≡ b → b ≡ false
    by true e = absurd (less_self x (less-trans x y x h e))
    by false e = refl

stays-beaten : (best found : Option InsertionChoice) (choice : InsertionChoice) → IsBeaten best choice → IsBeaten (merged_best key_of best found) choice
stays-beaten None found choice is = absurd is
stays-beaten (Some b) None choice is = is
stays-beaten (Some b) (Some f) choice is = by (is_lex_less (key_of f) (key_of b)) refl
  where
    by : (t : Bool) → is_lex_less (key_of f) (key_of b) ≡ t → is_lex_less (key_of choice) (key_of (cond t f b)) ≡ false
    by true e = not_less-trans (key_of choice) (key_of b) (key_of f) is (not_less-back (key_of f) (key_of b) e)
    by false e = is

found-beaten : (best found : Option InsertionChoice) → IfSome found (IsBeaten (merged_best key_of best found))
found-beaten best None = tt
found-beaten None (Some f) = less-self f
found-beaten (Some b) (Some f) = by (is_lex_less (key_of f) (key_of b)) refl
  where
    by : (t : Bool) → is_lex_less (key_of f) (key_of b) ≡ t → is_lex_less (key_of f) (key_of (cond t f b)) ≡ false
    by true e = less-self f
    by false e = e

still-beaten : (before here found : Option InsertionChoice) → IfSome found (IsBeaten before) → IfSome found (IsBeaten (merged_best key_of before here))
still-beaten before here None is = tt
still-beaten before here (Some f) is = stays-beaten before here f is

told-least : (n c : ℕ) (i b : ℤ) (tail : Bool) → nat_le n c ≡ true
    → (int_lt (pos n) (pos c) || (int_le (pos n) (pos c) && (int_lt i b || (int_le i b && tail)))) ≡ false → b ≤ℤ i
told-least n c i b tail le h = Prim.grind arith

module _ (model : Model) (lists : List (List ℕ)) (candidate : Candidate) (best : Option InsertionChoice) where
  -- the best of each list does not come before the best beside all
  each-beaten : (n v : ℕ) → v < n → IfSome (best_in model v (route lists v) candidate None) (IsBeaten (best_in_lists model lists candidate n best))
  each-beaten zero v low = absurd (omega (arith, low))
  each-beaten (suc n) v low =
      let before = best_in_lists model lists candidate n best in
      let here = best_in model n (route lists n) candidate None in
      let next : n + 1 ≡ suc n = omega arith in
      let is : best_in_lists model lists candidate (suc n) best ≡ merged_best key_of before here =
      ap (λ m. best_in_lists model lists candidate m best) (sym next)
      ∙ best_in_lists-more model lists candidate n best ∙ in-merged model n (route lists n) candidate before in
      subst (λ b. IfSome (best_in model v (route lists v) candidate None) (IsBeaten b)) (sym is)
      (elim (cases_lt v n) [
        | inl earlier ↦ still-beaten before here (best_in model v (route lists v) candidate None) (each-beaten n v earlier)
        | inr at ↦ (let e : n ≡ v = omega (arith, low, at) in
            subst (λ w. IfSome (best_in model w (route lists w) candidate None) (IsBeaten (merged_best key_of before here))) e (found-beaten before here))
      ])

  adds-no_less : (b : InsertionChoice) → nat_le candidate.class b.class ≡ true → (found : Option InsertionChoice)
      → IfSome found (IsBeaten (Some b)) → IfSome found (λ choice. choice.class ≡ candidate.class)
      → IfSome found (λ choice. b.increase ≤ℤ choice.increase)
  adds-no_less b le None beaten same = tt
  adds-no_less b le (Some f) beaten same =
      told-least f.class b.class f.increase b.increase (is_lex_less (tail_key f) (tail_key b)) (ap (λ n. nat_le n b.class) same ∙ le) beaten

  no-choice : (greatest : ℤ) (found : Option InsertionChoice) → IfSome found (IsBeaten None) → IfSome found (λ choice. greatest ≤ℤ choice.increase)
  no-choice greatest None h = tt
  no-choice greatest (Some f) h = absurd h

  -- what is known once all lists were asked
  pub told-anywhere : (before : Option ℤ) (next : Option InsertionChoice)
      → IsLeastAnywhere model lists candidate before → next ≡ best_in_lists model lists candidate (length lists) best
      → IsLeastAnywhere model lists candidate (least_told next candidate.class before)
  told-anywhere before next is e = by next e
    where
      by : (next : Option InsertionChoice) → next ≡ best_in_lists model lists candidate (length lists) best
          → IsLeastAnywhere model lists candidate (least_told next candidate.class before)
      by None e = λ v low. no-choice (pos (2 ^ 63 - 1)) (best_in model v (route lists v) candidate None)
          (subst (λ b. IfSome (best_in model v (route lists v) candidate None) (IsBeaten b)) (sym e) (each-beaten (length lists) v low))
      by (Some b) e = class_by (nat_le candidate.class b.class) refl
        where
          class_by : (t : Bool) → nat_le candidate.class b.class ≡ t → IsLeastAnywhere model lists candidate (cond t (Some b.increase) before)
          class_by true le = λ v low. adds-no_less b le (best_in model v (route lists v) candidate None)
              (subst (λ b. IfSome (best_in model v (route lists v) candidate None) (IsBeaten b)) (sym e) (each-beaten (length lists) v low))
              (best-class model v (route lists v) candidate)
          class_by false le = is

-- ---- a list that has changed

weaker : (found : Option InsertionChoice) (a b : ℤ) → b ≤ℤ a → IfSome found (λ choice. a ≤ℤ choice.increase) → IfSome found (λ choice. b ≤ℤ choice.increase)
weaker None a b low is = tt
weaker (Some f) a b low is = omega (arith, ints, low, is)

-- no more than an item adds to the other lists, and no more than it adds to this one
pub lowered-anywhere : (model : Model) (lists : List (List ℕ)) (v : ℕ) (candidate : Candidate) (least bound x : ℤ)
    → IsLeastElsewhere model lists v candidate (Some least)
    → BestAddsAtLeast model v (route lists v) candidate bound → x ≤ℤ least → x ≤ℤ bound → IsLeastAnywhere model lists candidate (Some x)
lowered-anywhere model lists v candidate least bound x others here low_one low_two = λ w low. elim (eqb_tells w v) [
  | inl same ↦ subst (λ u. BestAddsAtLeast model u (route lists u) candidate x) (sym same.1)
      (weaker (best_in model v (route lists v) candidate None) bound x low_two here)
  | inr other ↦ weaker (best_in model w (route lists w) candidate None) least x low_one (others w low other.1)
]

elsewhere : (model : Model) (lists : List (List ℕ)) (v : ℕ) (list : List ℕ) (candidate : Candidate) (least : Option ℤ)
    → IsLeastAnywhere model lists candidate least → IsLeastElsewhere model (with_route lists v list) v candidate least
elsewhere model lists v list candidate None is = tt
elsewhere model lists v list candidate (Some least) is = λ w low other.
    subst (λ l. BestAddsAtLeast model w l candidate least) (sym (route_set_other lists v w list other))
    (is w (let n = length-set lists v list in omega (arith, low, n)))

pub all-elsewhere : (model : Model) (lists : List (List ℕ)) (v : ℕ) (list : List ℕ) (candidates : List Candidate) (waiting : List WaitingItem)
    → All (IsWaiting model lists candidates) waiting
    → All (IsWaitingElsewhere model (with_route lists v list) v candidates) waiting
all-elsewhere model lists v list candidates waiting all k d low =
    let is = all k d low in
    record { there = is.there; least = elsewhere model lists v list (candidate_at candidates (get_or waiting k d).number) (get_or waiting k d).least is.least }

-- an item that is not marked may be put into each list
pub hold-unmarked : (model : Model) (lists : List (List ℕ)) (marks : List Bool) (candidate : Candidate)
    → AreBuilt model lists → AreMarks model.nodes lists marks → IsCandidate model candidate
    → is_marked marks (first_node (item_nodes candidate.item)) ≡ false → (v : ℕ) → MayHold model (route lists v) candidate.item
hold-unmarked model lists marks candidate built are valid unmarked v =
    MayHold-inactive model lists v candidate.item built valid.item
    (sym (are.each (first_node (item_nodes candidate.item)) false (first-below model candidate.item valid.item)) ∙ unmarked)

-- ---- the waiting items

-- what is known of one is written
pub waiting-same : (candidates : List Candidate) (waiting : List WaitingItem) (k : ℕ) (item : WaitingItem) → item.number ≡ (waiting_at waiting k).number
    → waiting_candidates candidates (slice_set waiting k item) ≡ waiting_candidates candidates waiting
waiting-same candidates waiting k item same =
    map-set_same (λ item. candidate_at candidates item.number) waiting k item unread_waiting (ap (candidate_at candidates) same)

-- candidate k of those that wait
pub waiting-read : (candidates : List Candidate) (waiting : List WaitingItem) (k : ℕ) (d : Candidate) → k < length waiting
    → get_or (waiting_candidates candidates waiting) k d ≡ candidate_at candidates (waiting_at waiting k).number
waiting-read candidates waiting k d low = get_or-map (λ item. candidate_at candidates item.number) waiting k unread_waiting d low

-- as many wait as before
pub waiting-many : (candidates : List Candidate) (some others : List WaitingItem)
    → waiting_candidates candidates some ≡ waiting_candidates candidates others → length some ≡ length others
waiting-many candidates some others e = sym (length-map some (λ item. candidate_at candidates item.number))
    ∙ ap length e ∙ length-map others (λ item. candidate_at candidates item.number)

narrowed : {A : Type 0} (p q : A → Bool) → ((x : A) → q x ≡ true → p x ≡ true) → (xs : List A) → filter q xs ≡ filter q (filter p xs)
narrowed p q h [] = refl
narrowed p q h (x ∷ xs) = by (p x) (q x) refl refl (narrowed p q h xs)
  where
    by : (a b : Bool) → p x ≡ a → q x ≡ b → filter q xs ≡ filter q (filter p xs)
        → cond b (x ∷ filter q xs) (filter q xs) ≡ filter q (cond a (x ∷ filter p xs) (filter p xs))
    by true b e f rest = ap (λ ys. cond b (x ∷ ys) ys) rest ∙ ap (λ t. cond t (x ∷ filter q (filter p xs)) (filter q (filter p xs))) (sym f)
    by false true e f rest = absurd (clash (p x) (h x f) e)
    by false false e f rest = rest

-- the item stands in no list
abbrev stands_nowhere : List (List ℕ) → List ℕ → Bool
stands_nowhere lists item = not (is_active lists (first_node item))

-- where other nodes became active, those that wait are all items that stand in no list still
pub waiting-later : (model : Model) (lists : List (List ℕ)) (v : ℕ) (list nodes : List ℕ) (candidates : List Candidate)
    → v < length lists → ((node : ℕ) → holds list node ≡ (holds nodes node || holds (route lists v) node))
    → unplaced_of lists candidates ≡ unplaced model lists → unplaced_of (with_route lists v list) candidates ≡ unplaced model (with_route lists v list)
waiting-later model lists v list nodes candidates there added all =
    narrowed (stands_nowhere lists) (stands_nowhere (with_route lists v list)) stays (map (λ candidate. item_nodes candidate.item) candidates)
    ∙ ap (filter (stands_nowhere (with_route lists v list))) all
    ∙ sym (narrowed (stands_nowhere lists) (stands_nowhere (with_route lists v list)) stays (items model))
  where
    stays : (item : List ℕ) → stands_nowhere (with_route lists v list) item ≡ true → stands_nowhere lists item ≡ true
    stays item h = by (holds nodes (first_node item)) (is_active lists (first_node item))
        (sym (ap not (is_active-added lists v list nodes (first_node item) there (added (first_node item)))) ∙ h)
      where
        by : (a b : Bool) → not (a || b) ≡ true → not b ≡ true
        by true b h = absurd (clash false h refl)
        by false b h = h

-- ---- the waiting items at the beginning

mapped : {A B : Type 0} (f : A → B) (p : A → Bool) (q : B → Bool) (xs : List A)
    → All (λ x. p x ≡ q (f x)) xs → filter q (map f (filter p xs)) ≡ filter q (map f xs)
mapped f p q [] same = refl
mapped f p q (x ∷ xs) same = by (p x) refl (mapped f p q xs (λ k d low. same (suc k) d (omega (arith, low))))
  where
    here : p x ≡ q (f x)
    here = same 0 x (omega arith)

    by : (b : Bool) → p x ≡ b → filter q (map f (filter p xs)) ≡ filter q (map f xs)
        → filter q (map f (cond b (x ∷ filter p xs) (filter p xs))) ≡ filter q (f x ∷ map f xs)
    by true e rest = ap (λ ys. cond (q (f x)) (f x ∷ ys) ys) rest
    by false e rest = rest ∙ ap (λ b. cond b (f x ∷ filter q (map f xs)) (filter q (map f xs))) (sym e ∙ here)

unmarked-is : (model : Model) (lists : List (List ℕ)) (marks : List Bool) (candidates : List Candidate)
    → AreCandidates model candidates → AreMarks model.nodes lists marks
    → All (λ candidate. is_unmarked marks candidate ≡ not (is_active lists (first_node (item_nodes candidate.item)))) candidates
unmarked-is model lists marks candidates all are k d low =
    let candidate : Candidate = get_or candidates k d in
    ap not (are.each (first_node (item_nodes candidate.item)) false (first-below model candidate.item (all.each k d low).item))

pub waiting-begun : (model : Model) (lists : List (List ℕ)) (candidates : List Candidate) (marks : List Bool) (waiting : List WaitingItem)
    → AreCandidates model candidates → AreMarks model.nodes lists marks
    → AreFirstWaiting candidates marks (length candidates) waiting → AreWaiting model lists candidates waiting
waiting-begun model lists candidates marks waiting all are begun = record {
  each = λ k d low.
      let read = get_or_default waiting k unread_waiting d low in
      record {
        there = subst (λ item. item.number < length candidates) read (begun.each k low);
        least = subst (IsLeastAnywhere model lists (candidate_at candidates (get_or waiting k d).number))
            (sym (sym (ap (λ item. item.least) read) ∙ begun.nothing k low)) tt;
      };
  all = ap (unplaced_of lists) (begun.unmarked ∙ ap (filter (is_unmarked marks)) (take_all (length candidates) candidates (omega arith)))
      ∙ mapped (λ candidate. item_nodes candidate.item) (is_unmarked marks)
      (λ item. not (is_active lists (first_node item))) candidates (unmarked-is model lists marks candidates all are)
      ∙ ap (filter (λ item. not (is_active lists (first_node item)))) all.all;
}

-- one candidate more
module _ (candidates : List Candidate) (marks : List Bool) (i : ℕ) (within : i < length candidates)
    (waiting : List WaitingItem) (begun : AreFirstWaiting candidates marks i waiting) where
  abbrev new : WaitingItem
  new = record { number = i; least = None }

  front : filter (is_unmarked marks) (take (i + 1) candidates)
      ≡ filter (is_unmarked marks) (take i candidates) ++ cond (is_unmarked marks (candidate_at candidates i)) (candidate_at candidates i ∷ []) []
  front =
      ap (filter (is_unmarked marks)) (take_more candidates i (candidate_at candidates i) within
      ∙ ap (λ c. take i candidates ++ c ∷ []) (get_or_default candidates i (candidate_at candidates i) _ within))
      ∙ filter-append (is_unmarked marks) (take i candidates) (candidate_at candidates i ∷ [])

  pub begun-more : (next : List WaitingItem) → next ≡ with_waiting candidates marks i waiting → AreFirstWaiting candidates marks (i + 1) next
  begun-more next e = subst (AreFirstWaiting candidates marks (i + 1)) (sym e) (by (is_unmarked marks (candidate_at candidates i)) refl)
    where
      read : {A : Type 0} (of : WaitingItem → A) (P : A → Type 0) → ((k : ℕ) → k < length waiting → P (of (waiting_at waiting k)))
          → P (of new) → (k : ℕ) → k < length (waiting ++ new ∷ []) → P (of (waiting_at (waiting ++ new ∷ []) k))
      read of P before last k low = at waiting k before low
        where
          at : (xs : List WaitingItem) (k : ℕ) → ((k : ℕ) → k < length xs → P (of (waiting_at xs k)))
              → k < length (xs ++ new ∷ []) → P (of (waiting_at (xs ++ new ∷ []) k))
          at [] zero before low = last
          at [] (suc k) before low = absurd (omega (arith, low))
          at (x ∷ xs) zero before low = before 0 (omega arith)
          at (x ∷ xs) (suc k) before low = at xs k (λ k low. before (suc k) (omega (arith, low))) (omega (arith, low))

      by : (b : Bool) → is_unmarked marks (candidate_at candidates i) ≡ b → AreFirstWaiting candidates marks (i + 1) (cond b (waiting ++ new ∷ []) waiting)
      by true u = record {
        each = read (λ item. item.number) (λ n. n < length candidates) begun.each within;
        nothing = read (λ item. item.least) (λ least. least ≡ None) begun.nothing refl;
        unmarked = map-append (λ item. candidate_at candidates item.number) waiting (new ∷ []) ∙ ap (λ cs. cs ++ candidate_at candidates i ∷ []) begun.unmarked
            ∙ ap (λ b. filter (is_unmarked marks) (take i candidates) ++ cond b (candidate_at candidates i ∷ []) []) (sym u) ∙ sym front;
      }
      by false u = record {
        each = begun.each;
        nothing = begun.nothing;
        unmarked = begun.unmarked ∙ sym (append-nil (filter (is_unmarked marks) (take i candidates)))
            ∙ ap (λ b. filter (is_unmarked marks) (take i candidates) ++ cond b (candidate_at candidates i ∷ []) []) (sym u) ∙ sym front;
      }
