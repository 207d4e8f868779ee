-- What every answer of the search keeps to.
use Rattle.std.proofs.Common.{◌≡◌, ◌∙◌, ◌<◌, ◌≤◌, ◌+◌, ◌++◌, ℕ, zero, suc, List, [], ◌∷◌, Bool, true, false, cond, Some, None, refl, ap, ap₂, sym, subst, arith}
use Rattle.std.proofs.Common.{length, append_assoc}
use Rattle.std.specs.Prelude.{◌&&◌, ◌||◌, ◌==◌, filter, is_some, int_le, int_lt, nat_lt, ◌-◌, ◌≤ℤ◌, ℤ}
use Rattle.std.specs.List.{list_any}
use Rattle.std.proofs.lemmas.Bool.{eqb-true}
use Rattle.std.proofs.lemmas.Int.{ints}
use Rattle.std.proofs.lemmas.List.{append-nil, length-append}
use Rattle.std.proofs.lemmas.List.Elements.{filter-append}
use Rattle.std.proofs.lemmas.List.Sums.{fold-append}
use Rattle.vr_model.specs.declared.records.Model.{Model}
use Rattle.vr_model.specs.declared.search.Limit.{Limit}
use Rattle.vr_model.specs.tables.Numbers.{is_lex_less}
use Rattle.vr_model.specs.tables.WellFormed.{IsWellFormed}
use Rattle.vr_model.specs.routes.Rules.{is_valid}
use Rattle.vr_model.specs.routes.Costs.{cost}
use Rattle.vr_model.specs.first.Choosing.{better, least_by}
use Rattle.vr_model.specs.search.Outcomes.{tried}
use Rattle.vr_model.proofs.tables.Tests.{clash, fails, lt_of_test, test_of_lt}
use Rattle.vr_model.proofs.routes.Lists.{are-lists}
use Rattle.vr_rules.specs.Placing.{AreBuilt}
use Rattle.vr_rules.proofs.PenaltyLemmas.{valid-open}
use Rattle.vr_strings.specs.declared.sizes.Ruin.{Ruin}
use Rattle.vr_ruin.specs.declared.wish.Wish.{Wish}
use Rattle.vr_ruin.specs.Lacking.{lack}
use Rattle.vr_ruin.specs.Steps.{RefineState, RefineStep, after_step, becomes_best, step_events, step_from, with_accepted}
use Rattle.vr_ruin.specs.Refining.{RefineEnd, is_satisfied, refine_begun, refined, refined_from, refined_search, ruin_of, stopped, with_events}
use Rattle.vr_ruin.specs.Answering.{accepted_from, lists_kept, IsSoundRefining, RefiningAnswers, RefiningIsSound, ValidFirstIsKept}
use Rattle.vr_ruin.proofs.LackLemmas.{valid_is}
use Rattle.vr_ruin.proofs.Remade.{steps_stay_open}

-- ---- numbers

lex_one : (x y : ℤ) → is_lex_less (x ∷ []) (y ∷ []) ≡ int_lt x y
lex_one x y = by (int_lt x y) (int_le x y)
  where
    by : (a b : Bool) → (a || (b && false)) ≡ a
    by true b = refl
    by false true = refl
    by false false = refl

no_dearer_than : (a b c : ℤ) → int_lt a b ≡ true → b ≤ℤ c → a ≤ℤ c
no_dearer_than a b c e h = grind (arith, ints)

-- lists that lack something are no better than those that lack nothing ..
pub not_best : (m n : ℕ) (less : Bool) → n ≡ 0 → (m == 0) ≡ false → (nat_lt m n || ((m == n) && less)) ≡ false
not_best m n less e f = ap₂ (λ a b. a || (b && less)) below (ap (λ n. m == n) e ∙ f)
  where
    below : nat_lt m n ≡ false
    below = fails (nat_lt m n) (λ h. let low = lt_of_test m n h in absurd (omega (arith, low, e)))

-- .. which are better than they
is_best : (m n : ℕ) (less : Bool) → m ≡ 0 → (n == 0) ≡ false → (nat_lt m n || ((m == n) && less)) ≡ true
is_best m n less e f = ap (λ a. a || ((m == n) && less)) (test_of_lt m n (omega (arith, e, some n f)))
  where
    some : (n : ℕ) → (n == 0) ≡ false → 0 < n
    some zero f = absurd (clash (0 == 0) refl f)
    some (suc n) f = omega arith

-- ---- lists of lists, one more at the end

one_more_least : {A : Type 0} (key : A → List ℤ) (xs : List A) (y : A) → least_by key (xs ++ y ∷ []) ≡ better key (least_by key xs) y
one_more_least key xs y = fold-append (better key) None xs (y ∷ [])

any_filter : {A : Type 0} (p : A → Bool) (xs : List A) (x : A) (key : A → List ℤ) → least_by key (filter p xs) ≡ Some x → list_any p xs ≡ true
any_filter p [] x key e = absurd (cc)
any_filter p (y ∷ ys) x key e = by (p y) refl (any_filter p ys x key)
  where
    by : (b : Bool) → p y ≡ b → (least_by key (filter p ys) ≡ Some x → list_any p ys ≡ true) → (p y || list_any p ys) ≡ true
    by true h later = ap (λ b. b || list_any p ys) h
    by false h later = ap (λ b. b || list_any p ys) h ∙ later (sym (ap (λ b. least_by key (cond b (y ∷ filter p ys) (filter p ys))) h) ∙ e)

none_filter : {A : Type 0} (p : A → Bool) (xs : List A) → filter p xs ≡ [] → list_any p xs ≡ false
none_filter p [] e = refl
none_filter p (y ∷ ys) e = by (p y) refl (none_filter p ys)
  where
    by : (b : Bool) → p y ≡ b → (filter p ys ≡ [] → list_any p ys ≡ false) → (p y || list_any p ys) ≡ false
    by true h later = absurd (some_none (sym (ap (λ b. cond b (y ∷ filter p ys) (filter p ys)) h) ∙ e))
      where
        some_none : {A : Type 0} {x : A} {xs : List A} → x ∷ xs ≡ [] → ⊥
        some_none e = cc
    by false h later = ap (λ b. b || list_any p ys) h ∙ later (sym (ap (λ b. cond b (y ∷ filter p ys) (filter p ys)) h) ∙ e)

module _ (model : Model) (well_formed : IsWellFormed model) (limit : Limit) where
  abbrev Lists : Type 0
  Lists = List (List ℕ)

  -- the valid ones of lists
  abbrev valid_of : List Lists → List Lists
  valid_of kept = filter (is_valid model) kept

  -- Where a search stands that had these lists so far. As long as its best lists lack something, so do all; then they
  -- are the first of least cost among the valid ones, and the lists of the first cost are the first of these.
  pub record IsSoundAt (kept : List Lists) (lists best first : Lists) (used found : ℕ) : Type 0 where
    pub lists_open : AreBuilt model lists
    pub best_open : AreBuilt model best
    pub first_open : AreBuilt model first
    pub none : (lack model best == 0) ≡ false → valid_of kept ≡ []
    pub least : (lack model best == 0) ≡ true → least_by (λ lists. cost model lists ∷ []) (valid_of kept) ≡ Some best
    pub first_least : (lack model best == 0) ≡ true → least_by (λ lists. []) (valid_of kept) ≡ Some first
    pub both : (lack model first == 0) ≡ (lack model best == 0)
    pub no_dearer : (lack model best == 0) ≡ true → cost model best ≤ℤ cost model first
    pub used_few : used ≤ limit.tries
    pub found_some : 1 ≤ found
    pub found_few : found ≤ limit.solutions
    pub count : found ≡ length kept

  lacks : (lists : Lists) → AreBuilt model lists → is_valid model lists ≡ (lack model lists == 0)
  lacks lists built = valid_is model well_formed lists built

  -- one more that is valid, or not
  valid_more : (kept : List Lists) (new : Lists) (b : Bool) → is_valid model new ≡ b → valid_of (kept ++ new ∷ []) ≡ valid_of kept ++ cond b (new ∷ []) []
  valid_more kept new b e = filter-append (is_valid model) kept (new ∷ []) ∙ ap (λ b. valid_of kept ++ cond b (new ∷ []) []) e

  -- ---- the first lists

  begins : (lists : Lists) → AreBuilt model lists → 1 ≤ limit.solutions → IsSoundAt (lists ∷ []) lists lists lists 0 1
  begins lists built some = record {
    lists_open = built;
    best_open = built;
    first_open = built;
    none = λ e. ap (λ b. cond b (lists ∷ []) []) (lacks lists built ∙ e);
    least = λ e. ap (λ b. least_by (λ lists. cost model lists ∷ []) (cond b (lists ∷ []) [])) (lacks lists built ∙ e);
    first_least = λ e. ap (λ b. least_by (λ lists. []) (cond b (lists ∷ []) [])) (lacks lists built ∙ e);
    both = refl;
    no_dearer = λ e. omega (arith, ints);
    used_few = omega arith;
    found_some = omega arith;
    found_few = some;
    count = refl;
  }

  -- ---- a step

  -- a step that is refused counts as a try
  refused : (kept : List Lists) (lists best first : Lists) (used found : ℕ) → IsSoundAt kept lists best first used found
      → suc used ≤ limit.tries → IsSoundAt kept lists best first (suc used) found
  refused kept lists best first used found s low = record {
    lists_open = s.lists_open;
    best_open = s.best_open;
    first_open = s.first_open;
    none = s.none;
    least = s.least;
    first_least = s.first_least;
    both = s.both;
    no_dearer = s.no_dearer;
    used_few = low;
    found_some = s.found_some;
    found_few = s.found_few;
    count = s.count;
  }

  -- the parts of it that speak of valid lists
  record IsLeastAt (kept : List Lists) (best first : Lists) : Type 0 where
    pub none : (lack model best == 0) ≡ false → valid_of kept ≡ []
    pub least : (lack model best == 0) ≡ true → least_by (λ lists. cost model lists ∷ []) (valid_of kept) ≡ Some best
    pub first_least : (lack model best == 0) ≡ true → least_by (λ lists. []) (valid_of kept) ≡ Some first
    pub both : (lack model first == 0) ≡ (lack model best == 0)
    pub no_dearer : (lack model best == 0) ≡ true → cost model best ≤ℤ cost model first

  module _ (kept : List Lists) (lists best first new : Lists) (used found : ℕ)
      (s : IsSoundAt kept lists best first used found) (built : AreBuilt model new) where
    abbrev new_best : Lists
    new_best = cond (becomes_best model best new) new best

    abbrev new_first : Lists
    new_first = cond (lack model first == 0) first new

    -- lists that lack nothing, after others that do not either
    better_valid : (lack model best == 0) ≡ true → (lack model new == 0) ≡ true → (b : Bool)
        → becomes_best model best new ≡ b → IsLeastAt (kept ++ new ∷ []) (cond b new best) first
    better_valid e f b h =
        let less : int_lt (cost model new) (cost model best) ≡ b = tells (lack model new) (lack model best)
        (int_lt (cost model new) (cost model best)) (eqb-true (lack model best) 0 e) (eqb-true (lack model new) 0 f) ∙ h in
        let more = valid_more kept new true (lacks new built ∙ f) in
        record {
          none = λ g. absurd (clash (lack model (cond b new best) == 0) (still b) g);
          least = λ g. ap (least_by (λ lists. cost model lists ∷ [])) more ∙ one_more_least (λ lists. cost model lists ∷ []) (valid_of kept) new
              ∙ ap (λ o. better (λ lists. cost model lists ∷ []) o new) (s.least e) ∙ ap Some (cheaper b less);
          first_least = λ g. ap (least_by (λ lists. [])) more ∙ one_more_least (λ lists. []) (valid_of kept) new
              ∙ ap (λ o. better (λ lists. []) o new) (s.first_least e);
          both = s.both ∙ e ∙ sym (still b);
          no_dearer = λ g. less_still b less;
        }
      where
        tells : (m n : ℕ) (less : Bool) → n ≡ 0 → m ≡ 0 → less ≡ (nat_lt m n || ((m == n) && less))
        tells m n less e f = sym (ap₂ (λ m n. nat_lt m n || ((m == n) && less)) f e)

        still : (b : Bool) → (lack model (cond b new best) == 0) ≡ true
        still true = f
        still false = e

        cheaper : (b : Bool) → int_lt (cost model new) (cost model best) ≡ b
            → cond (is_lex_less (cost model new ∷ []) (cost model best ∷ [])) new best ≡ cond b new best
        cheaper b less = ap (λ c. cond c new best) (lex_one (cost model new) (cost model best) ∙ less)

        less_still : (b : Bool) → int_lt (cost model new) (cost model best) ≡ b → cost model (cond b new best) ≤ℤ cost model first
        less_still true less = no_dearer_than (cost model new) (cost model best) (cost model first) less (s.no_dearer e)
        less_still false less = s.no_dearer e

    -- lists that lack something change nothing that is said of valid ones
    lacking : (lack model new == 0) ≡ false → (b : Bool) → becomes_best model best new ≡ b
        → IsLeastAt (kept ++ new ∷ []) (cond b new best) (cond (lack model first == 0) first new)
    lacking f b h = by (lack model best == 0) refl b h
      where
        same : valid_of (kept ++ new ∷ []) ≡ valid_of kept
        same = valid_more kept new false (lacks new built ∙ f) ∙ append-nil (valid_of kept)

        by : (c : Bool) → (lack model best == 0) ≡ c → (b : Bool) → becomes_best model best new ≡ b
            → IsLeastAt (kept ++ new ∷ []) (cond b new best) (cond (lack model first == 0) first new)
        by true e true h = absurd (clash (becomes_best model best new) h
            (not_best (lack model new) (lack model best) (int_lt (cost model new) (cost model best)) (eqb-true (lack model best) 0 e) f))
        by true e false h = subst (λ c. IsLeastAt (kept ++ new ∷ []) best (cond c first new)) (sym (s.both ∙ e)) (record {
          none = λ g. absurd (clash (lack model best == 0) e g);
          least = λ g. ap (least_by (λ lists. cost model lists ∷ [])) same ∙ s.least g;
          first_least = λ g. ap (least_by (λ lists. [])) same ∙ s.first_least g;
          both = s.both;
          no_dearer = s.no_dearer;
        })
        by false e b h = subst (λ c. IsLeastAt (kept ++ new ∷ []) (cond b new best) (cond c first new)) (sym (s.both ∙ e)) (record {
          none = λ g. same ∙ s.none e;
          least = λ g. absurd (clash (lack model (cond b new best) == 0) g (none_still b));
          first_least = λ g. absurd (clash (lack model (cond b new best) == 0) g (none_still b));
          both = f ∙ sym (none_still b);
          no_dearer = λ g. absurd (clash (lack model (cond b new best) == 0) g (none_still b));
        })
          where
            none_still : (b : Bool) → (lack model (cond b new best) == 0) ≡ false
            none_still true = f
            none_still false = e

    -- the first lists that lack nothing
    first_valid : (lack model best == 0) ≡ false → (lack model new == 0) ≡ true → IsLeastAt (kept ++ new ∷ []) new new
    first_valid e f =
        let more : valid_of (kept ++ new ∷ []) ≡ new ∷ [] = valid_more kept new true (lacks new built ∙ f) ∙ ap (λ xs. xs ++ new ∷ []) (s.none e) in
        record {
          none = λ g. absurd (clash (lack model new == 0) f g);
          least = λ g. ap (least_by (λ lists. cost model lists ∷ [])) more;
          first_least = λ g. ap (least_by (λ lists. [])) more;
          both = refl;
          no_dearer = λ g. omega (arith, ints);
        }

    least_after : IsLeastAt (kept ++ new ∷ []) new_best new_first
    least_after = by (lack model new == 0) (lack model best == 0) refl refl
      where
        by : (f e : Bool) → (lack model new == 0) ≡ f → (lack model best == 0) ≡ e → IsLeastAt (kept ++ new ∷ []) new_best new_first
        by false e g h = lacking g (becomes_best model best new) refl
        by true true g h =
            subst (λ c. IsLeastAt (kept ++ new ∷ []) new_best (cond c first new)) (sym (s.both ∙ h)) (better_valid h g (becomes_best model best new) refl)
        by true false g h =
            subst (λ c. IsLeastAt (kept ++ new ∷ []) new_best (cond c first new)) (sym (s.both ∙ h))
            (subst (λ c. IsLeastAt (kept ++ new ∷ []) (cond c new best) new)
            (sym (is_best (lack model new) (lack model best) (int_lt (cost model new) (cost model best)) (eqb-true (lack model new) 0 g) h))
            (first_valid h g))

    -- a step that is accepted
    accepted : suc used ≤ limit.tries → suc found ≤ limit.solutions → IsSoundAt (kept ++ new ∷ []) new new_best new_first (suc used) (suc found)
    accepted tries solutions = record {
      lists_open = built;
      best_open = cond_open (becomes_best model best new) new best built s.best_open;
      first_open = cond_open (lack model first == 0) first new s.first_open built;
      none = least_after.none;
      least = least_after.least;
      first_least = least_after.first_least;
      both = least_after.both;
      no_dearer = least_after.no_dearer;
      used_few = tries;
      found_some = omega arith;
      found_few = solutions;
      count = (let c = s.count in let l = length-append kept (new ∷ []) in omega (arith, c, l));
    }
      where
        cond_open : (b : Bool) (x y : Lists) → AreBuilt model x → AreBuilt model y → AreBuilt model (cond b x y)
        cond_open true x y h g = h
        cond_open false x y h g = g

  -- ---- the search from a state on

  -- what is so at the end of a search that had these lists
  abbrev IsSoundEnd : List Lists → RefineEnd → Type 0
  IsSoundEnd kept answer =
      IsSoundAt kept answer.outcome.last answer.outcome.best answer.first answer.outcome.report.tries answer.outcome.report.solutions

  -- .. and in a state of it
  abbrev IsSoundIn : List Lists → RefineState → Type 0
  IsSoundIn kept state = IsSoundAt kept state.search.lists state.search.best state.first state.search.used state.search.found

  -- the lists that a step adds to those that the search had
  abbrev kept_by : RefineStep → List Lists → List Lists
  kept_by step rest = elim step.is_accepted [ true ↦ step.lists ∷ rest | false ↦ rest ]

  step_sound : (kept : List Lists) (state : RefineState) (step : RefineStep) → IsSoundIn kept state
      → AreBuilt model step.lists → suc state.search.used ≤ limit.tries → suc state.search.found ≤ limit.solutions
      → (b : Bool) → step.is_accepted ≡ b → IsSoundIn (kept ++ kept_by step []) (after_step model state step)
  step_sound kept state step s built tries solutions true e =
      subst (λ b. IsSoundIn (kept ++ elim b [ true ↦ step.lists ∷ [] | false ↦ [] ]) (elim b [
        | true ↦ record {
          search = with_accepted model state.search step.lists;
          first = cond (lack model state.first == 0) state.first step.lists;
          words = step.words;
        }
        | false ↦ record { search = tried state.search 1; first = state.first; words = step.words }
      ])) (sym e) (accepted kept state.search.lists state.search.best state.first step.lists state.search.used state.search.found s built tries solutions)
  step_sound kept state step s built tries solutions false e =
      subst (λ b. IsSoundIn (kept ++ elim b [ true ↦ step.lists ∷ [] | false ↦ [] ]) (elim b [
        | true ↦ record {
          search = with_accepted model state.search step.lists;
          first = cond (lack model state.first == 0) state.first step.lists;
          words = step.words;
        }
        | false ↦ record { search = tried state.search 1; first = state.first; words = step.words }
      ])) (sym e) (subst (λ used. IsSoundAt (kept ++ []) state.search.lists state.search.best state.first used state.search.found) one_tried
      (subst (λ kept. IsSoundAt kept state.search.lists state.search.best state.first (suc state.search.used) state.search.found)
      (sym (append-nil kept)) (refused kept state.search.lists state.search.best state.first state.search.used state.search.found s tries)))
    where
      one_tried : suc state.search.used ≡ state.search.used + 1
      one_tried = omega arith

  kept_rest : (kept rest : List Lists) (step : RefineStep) → (kept ++ kept_by step []) ++ rest ≡ kept ++ kept_by step rest
  kept_rest kept rest step = by step.is_accepted
    where
      by : (b : Bool) → (kept ++ elim b [ true ↦ step.lists ∷ [] | false ↦ [] ]) ++ rest ≡ kept ++ elim b [ true ↦ step.lists ∷ rest | false ↦ rest ]
      by true = append_assoc kept (step.lists ∷ []) rest
      by false = append_assoc kept [] rest

  sound_from : (ruin : Ruin) (left : ℕ) (kept : List Lists) (state : RefineState) → IsSoundIn kept state → state.search.used + left ≤ limit.tries
      → IsSoundEnd (kept ++ accepted_from model ruin limit left state) (refined_from model ruin limit left state)
  unfolding refined_from accepted_from
  sound_from ruin zero kept state s low = subst (λ kept. IsSoundEnd kept (stopped limit state)) (sym (append-nil kept)) s
  sound_from ruin (suc left) kept state s low = by (is_satisfied limit state) refl (λ kept. sound_from ruin left kept next)
    where
      step : RefineStep
      step = step_from model ruin limit.tries state

      next : RefineState
      next = after_step model state step

      one_more : (found solutions : ℕ) → found ≤ solutions → (found == solutions) ≡ false → suc found ≤ solutions
      one_more found solutions low e = grind arith

      used_next : (b : Bool) → (let after : RefineState = elim b [
        | true ↦ record {
          search = with_accepted model state.search step.lists;
          first = cond (lack model state.first == 0) state.first step.lists;
          words = step.words;
        }
        | false ↦ record { search = tried state.search 1; first = state.first; words = step.words }
      ] in after.search.used ≡ suc state.search.used)
      used_next true = refl
      used_next false = omega arith

      GoesOn : Type 0
      GoesOn = (kept : List Lists) → IsSoundIn kept next → next.search.used + left ≤ limit.tries
          → IsSoundEnd (kept ++ accepted_from model ruin limit left next) (refined_from model ruin limit left next)

      going : GoesOn → (state.search.found == limit.solutions) ≡ false
          → IsSoundEnd (kept ++ kept_by step (accepted_from model ruin limit left next)) (refined_from model ruin limit left next)
      going again e =
          let sound = step_sound kept state step s (steps_stay_open model ruin limit.tries state well_formed s.lists_open)
          (omega (arith, low)) (one_more state.search.found limit.solutions s.found_few e) step.is_accepted refl in
          let used = used_next step.is_accepted in
          subst (λ kept. IsSoundEnd kept (refined_from model ruin limit left next)) (kept_rest kept (accepted_from model ruin limit left next) step)
          (again (kept ++ kept_by step []) sound (omega (arith, low, used)))

      by : (b : Bool) → is_satisfied limit state ≡ b → GoesOn
          → IsSoundEnd (kept ++ elim b [ true ↦ [] | false ↦ kept_by step (accepted_from model ruin limit left next) ])
          (elim b [ true ↦ stopped limit state | false ↦ with_events (step_events model state step) (refined_from model ruin limit left next) ])
      by true e again = subst (λ kept. IsSoundEnd kept (stopped limit state)) (sym (append-nil kept)) s
      by false e again = going again e

  -- ---- the answer

  search_sound : (lists : Lists) (wish : Wish) → AreBuilt model lists → 1 ≤ limit.solutions
      → IsSoundEnd (lists_kept model lists limit wish) (refined_search model lists limit wish)
  unfolding refined_search
  search_sound lists wish built some =
      sound_from (ruin_of model lists wish) limit.tries (lists ∷ []) (refine_begun lists wish.seed) (begins lists built some) (omega arith)

  answer_sound : (lists : Lists) (wish : Wish) (answer : RefineEnd) → AreBuilt model lists → 1 ≤ limit.solutions
      → refined model lists limit wish ≡ Some answer → IsSoundRefining model lists limit wish answer
  unfolding refined
  answer_sound lists wish answer built some e = by (lack model whole.outcome.best == 0) refl e
    where
      whole : RefineEnd
      whole = refined_search model lists limit wish

      s : IsSoundEnd (lists_kept model lists limit wish) whole
      s = search_sound lists wish built some

      sound : (lack model whole.outcome.best == 0) ≡ true → IsSoundRefining model lists limit wish whole
      sound f = record {
        best_valid = lacks whole.outcome.best s.best_open ∙ f;
        best_is_first_least = s.least f;
        first_valid = lacks whole.first s.first_open ∙ s.both ∙ f;
        first_is_first = s.first_least f;
        no_dearer = s.no_dearer f;
        last_open = s.lists_open;
        tries = s.used_few;
        some_solution = s.found_some;
        solutions = s.found_few;
        one_of_each = s.count;
      }

      by : (b : Bool) → (lack model whole.outcome.best == 0) ≡ b → cond b (Some whole) None ≡ Some answer → IsSoundRefining model lists limit wish answer
      by false f e = absurd (cc)
      by true f e = subst (IsSoundRefining model lists limit wish) (same e) (sound f)
        where
          same : Some whole ≡ Some answer → whole ≡ answer
          same e = cc

  answers : (lists : Lists) (wish : Wish) → AreBuilt model lists → 1 ≤ limit.solutions
      → is_some (refined model lists limit wish) ≡ list_any (is_valid model) (lists_kept model lists limit wish)
  unfolding refined
  answers lists wish built some = by (lack model whole.outcome.best == 0) refl
    where
      whole : RefineEnd
      whole = refined_search model lists limit wish

      s : IsSoundEnd (lists_kept model lists limit wish) whole
      s = search_sound lists wish built some

      by : (b : Bool) → (lack model whole.outcome.best == 0) ≡ b
          → is_some (cond b (Some whole) None) ≡ list_any (is_valid model) (lists_kept model lists limit wish)
      by true f = sym (any_filter (is_valid model) (lists_kept model lists limit wish) whole.outcome.best (λ lists. cost model lists ∷ []) (s.least f))
      by false f = sym (none_filter (is_valid model) (lists_kept model lists limit wish) (s.none f))

pub refining_is_sound : RefiningIsSound
refining_is_sound model lists limit wish answer well_formed built some e = answer_sound model well_formed limit lists wish answer built some e

pub refining_answers : RefiningAnswers
refining_answers model lists limit wish well_formed built some = answers model well_formed limit lists wish built some

-- ---- the first lists

module _ (model : Model) (ruin : Ruin) (limit : Limit) where
  first_stays : (left : ℕ) (state : RefineState) → (lack model state.first == 0) ≡ true → (refined_from model ruin limit left state).first ≡ state.first
  unfolding refined_from
  first_stays zero state e = refl
  first_stays (suc left) state e = by (is_satisfied limit state) (first_stays left (after_step model state step))
    where
      step : RefineStep
      step = step_from model ruin limit.tries state

      next_first : (b : Bool) → (let after : RefineState = elim b [
        | true ↦ record {
          search = with_accepted model state.search step.lists;
          first = cond (lack model state.first == 0) state.first step.lists;
          words = step.words;
        }
        | false ↦ record { search = tried state.search 1; first = state.first; words = step.words }
      ] in after.first ≡ state.first)
      next_first true = ap (λ b. cond b state.first step.lists) e
      next_first false = refl

      by : (b : Bool) → ((lack model (after_step model state step).first == 0) ≡ true
          → (refined_from model ruin limit left (after_step model state step)).first ≡ (after_step model state step).first)
          → (let end_of : RefineEnd = elim b [
            | true ↦ stopped limit state
            | false ↦ with_events (step_events model state step) (refined_from model ruin limit left (after_step model state step))
          ] in end_of.first ≡ state.first)
      by true again = refl
      by false again =
          let same = next_first step.is_accepted in
          again (ap (λ lists. lack model lists == 0) same ∙ e) ∙ same

pub valid_first_is_kept : ValidFirstIsKept
unfolding refined refined_search
valid_first_is_kept model lists limit wish answer well_formed valid e = by (lack model whole.outcome.best == 0) e
    ∙ first_stays model (ruin_of model lists wish) limit limit.tries (refine_begun lists wish.seed) none
  where
    whole : RefineEnd
    whole = refined_search model lists limit wish

    built : AreBuilt model lists
    built = record { are_lists = are-lists model lists valid; are_open = valid-open model lists valid }

    none : (lack model lists == 0) ≡ true
    none = sym (valid_is model well_formed lists built) ∙ valid

    by : (b : Bool) → cond b (Some whole) None ≡ Some answer → answer.first ≡ whole.first
    by false e = absurd (cc)
    by true e = same e
      where
        same : Some whole ≡ Some answer → answer.first ≡ whole.first
        same e = ap (λ a. a.first) (turned e)
          where
            turned : Some whole ≡ Some answer → answer ≡ whole
            turned e = cc
