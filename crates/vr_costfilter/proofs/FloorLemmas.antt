-- Floors of stops, and steps one before another.
use Rattle.std.proofs.Common.{◌≡◌, ◌∙◌, ◌+◌, ◌<◌, ◌-◌, ℕ, zero, suc, Bool, true, false, cond, List, [], ◌∷◌, ◌++◌, length, length-append, reverse, drop, refl}
use Rattle.std.proofs.Common.{sym, ap, ap₂, subst, arith, append_assoc, Option, Some, None}
use Rattle.std.specs.Prelude.{All, IfSome, ℤ, pos, ◌+ℤ◌, ◌-ℤ◌, ◌≤ℤ◌, IsTrue, int_le, option_map, slice_index_or, unwrap_or}
use Rattle.std.specs.Int.{int_max}
use Rattle.std.proofs.lemmas.Int.{ints}
use Rattle.std.proofs.lemmas.List.{drop_more, get_or-map, get_or-reverse, get_or_default, length-map, length-reverse, map-append, reverse-append}
use Rattle.std.proofs.lemmas.List.Elements.{All-append}
use Rattle.vr_spans.specs.declared.runs.Run.{Run}
use Rattle.vr_model.specs.declared.records.Model.{Model}
use Rattle.vr_model.proofs.routes.Lists.{visit_below}
use Rattle.vr_costfilter.specs.Runs.{Runs, no_run}
use Rattle.vr_costfilter.specs.Floors.{before, first_step_or, floor_before, floor_in, stop_floor, AreAimed, IsStep, IsVisitStep, WentBack}
use Rattle.vr_costfilter.specs.Steps.{AreSteps}
use Rattle.vr_costfilter.specs.declared.trails.Step.{Step}

-- ---- answers, and lists from their ends

-- what holds of an answer, where it follows
pub some-map : {X : Type 0} (P Q : X → Type 0) (o : Option X) → ((x : X) → P x → Q x) → IfSome o P → IfSome o Q
some-map P Q None f h = h
some-map P Q (Some x) f h = f x h

-- what is behind the place before
pub drop-one : {X : Type 0} (xs : List X) (n k : ℕ) (d : X) → length xs ≡ n → k < n → drop (n - (k + 1)) xs ≡ slice_index_or xs (n - 1 - k) d ∷ drop (n - k) xs
drop-one xs n k d many low =
    let place : n - (k + 1) ≡ n - 1 - k = omega (arith, low) in
    let next : n - (k + 1) + 1 ≡ n - k = omega (arith, low) in
    drop_more xs (n - (k + 1)) d (omega (arith, many, low)) ∙ ap₂ (λ (i j : ℕ). slice_index_or xs i d ∷ drop j xs) place next

-- a step that is read of those that were put down from the last one to the first
pub step-read : (items read : List Step) (n k : ℕ) (d other : Step) → read ≡ items → length items ≡ n
    → k < n → slice_index_or read (n - 1 - k) d ≡ slice_index_or (reverse items) k other
step-read items read n k d other is many low =
    ap (λ (l : List Step). slice_index_or l (n - 1 - k) d) is ∙ ap (λ m. slice_index_or items (m - 1 - k) d) (sym many)
    ∙ sym (get_or-reverse items k d (omega (arith, many, low)))
    ∙ get_or_default (reverse items) k d other (let l = length-reverse items in omega (arith, l, many, low))

-- ---- one stop

-- a floor that a stop has
pub record IsFloor (floor t s : ℤ) (allowed : Run) (it : ℤ) : Type 0 where
  pub is : it ≡ int_max ((floor -ℤ t) -ℤ s) allowed.lo
  pub most : it ≤ℤ allowed.hi

number-same : (a b : ℤ) → Some a ≡ Some b → a ≡ b
number-same a b e = ap (λ o. unwrap_or o a) e

step-same : (a b : Step) → Some a ≡ Some b → a ≡ b
step-same a b e = ap (λ o. unwrap_or o a) e

pub floor-had : (floor t s : ℤ) (allowed : Run) (it : ℤ) → floor_in floor t s allowed ≡ Some it → IsFloor floor t s allowed it
floor-had floor t s allowed it e = by (int_le (floor_before floor t s allowed) allowed.hi) refl e
  where
    by : (b : Bool) → int_le (floor_before floor t s allowed) allowed.hi ≡ b
        → cond b (Some (floor_before floor t s allowed)) None ≡ Some it → IsFloor floor t s allowed it
    by true had e =
        subst (IsFloor floor t s allowed) (number-same (floor_before floor t s allowed) it e) (record { is = refl; most = grind (arith, ints, had) })
    by false had e = absurd (cc)

pub floor-is : (floor t s : ℤ) (allowed : Run) (it : ℤ) → IsFloor floor t s allowed it → floor_in floor t s allowed ≡ Some it
floor-is floor t s allowed it is =
    let le : IsTrue (int_le it allowed.hi) = grind (arith, ints, is.most) in
    let test : int_le (floor_before floor t s allowed) allowed.hi ≡ true = subst (λ x. IsTrue (int_le x allowed.hi)) is.is le in
    ap (λ b. cond b (Some (floor_before floor t s allowed)) None) test ∙ ap (λ x. Some x) (sym is.is)

-- a stop that allows nothing from a floor on has none
pub floor-not : (floor t s : ℤ) (allowed : Run) (it : ℤ) → it ≡ int_max ((floor -ℤ t) -ℤ s) allowed.lo
    → (allowed.hi +ℤ pos 1) ≤ℤ it → floor_in floor t s allowed ≡ None
floor-not floor t s allowed it is above = by (int_le (floor_before floor t s allowed) allowed.hi) refl
  where
    by : (b : Bool) → int_le (floor_before floor t s allowed) allowed.hi ≡ b → cond b (Some (floor_before floor t s allowed)) None ≡ None
    by false e = refl
    by true e =
        let le : floor_before floor t s allowed ≤ℤ allowed.hi = grind (arith, ints, e) in
        absurd (omega (arith, ints, le, is, above))

-- a step that comes before another one
pub record IsBefore (model : Model) (d v : ℕ) (runs : Runs) (node : ℕ) (next step : Step) : Type 0 where
  pub node_is : step.node ≡ node
  pub floor : stop_floor model d v node (slice_index_or runs.visits node no_run) next ≡ Some step.floor

pub before-had : (model : Model) (d v : ℕ) (runs : Runs) (node : ℕ) (next step : Step)
    → before model d v runs node next ≡ Some step → IsBefore model d v runs node next step
before-had model d v runs node next step e = by (stop_floor model d v node (slice_index_or runs.visits node no_run) next) refl e
  where
    by : (o : Option ℤ) → stop_floor model d v node (slice_index_or runs.visits node no_run) next ≡ o
        → option_map (λ (floor : ℤ). (let s : Step = record { node = node; floor = floor } in s)) o ≡ Some step → IsBefore model d v runs node next step
    by None is e = absurd (cc)
    by (Some floor) is e =
        subst (IsBefore model d v runs node next) (step-same (record { node = node; floor = floor }) step e) (record { node_is = refl; floor = is })

pub before-is : (model : Model) (d v : ℕ) (runs : Runs) (node : ℕ) (next : Step) (floor : ℤ)
    → stop_floor model d v node (slice_index_or runs.visits node no_run) next ≡ Some floor
    → (read : ℤ) → read ≡ floor → before model d v runs node next ≡ Some (record { node = node; floor = read })
before-is model d v runs node next floor e read same =
    ap (option_map (λ (floor : ℤ). (let s : Step = record { node = node; floor = floor } in s))) e
    ∙ ap (λ (f : ℤ). Some (record { node = node; floor = f })) (sym same)

-- ---- steps

pub visit-step : (model : Model) (step : Step) → IsVisitStep model step → IsStep model step
visit-step model step is = record { node = visit_below model step.node is.visit; floor = is.floor }

pub first-append : (xs ys : List Step) (next : Step) → first_step_or (xs ++ ys) next ≡ first_step_or xs (first_step_or ys next)
first-append [] ys next = refl
first-append (x ∷ xs) ys next = refl

-- as many steps as visits
pub many-steps : (model : Model) (d v : ℕ) (runs : Runs) (list : List ℕ) (steps : List Step) → AreSteps model d v runs list steps → length steps ≡ length list
many-steps model d v runs list steps are = let n = ap length are.nodes_are in let m = length-map steps (λ (s : Step). s.node) in omega (arith, n, m)

-- to the nodes of the list
pub node-of : (model : Model) (d v : ℕ) (runs : Runs) (list : List ℕ) (steps : List Step) → AreSteps model d v runs list steps
    → (k : ℕ) (other : Step) → k < length list → (slice_index_or steps k other).node ≡ slice_index_or list k 0
node-of model d v runs list steps are k other low =
    sym (get_or-map (λ (s : Step). s.node) steps k other 0 (let n = many-steps model d v runs list steps are in omega (arith, n, low)))
    ∙ ap (λ (l : List ℕ). slice_index_or l k 0) are.nodes_are

module _ (model : Model) (d v : ℕ) (runs : Runs) where
  pub aimed-none : (next : Step) → AreAimed model d v runs [] next
  aimed-none next = record { each = λ k low. absurd (omega (arith, low)) }

  pub aimed-cons : (x : Step) (xs : List Step) (next : Step) → before model d v runs x.node (first_step_or xs next) ≡ Some x
      → AreAimed model d v runs xs next → AreAimed model d v runs (x ∷ xs) next
  aimed-cons x xs next e are = record { each = each }
    where
      each : (k : ℕ) → k < length (x ∷ xs)
          → before model d v runs (slice_index_or (x ∷ xs) k next).node (slice_index_or (x ∷ xs) (suc k) next) ≡ Some (slice_index_or (x ∷ xs) k next)
      each zero low = e
      each (suc k) low = are.each k (omega (arith, low))

  pub aimed-first : (x : Step) (xs : List Step) (next : Step) → AreAimed model d v runs (x ∷ xs) next
      → before model d v runs x.node (first_step_or xs next) ≡ Some x
  aimed-first x xs next are = are.each 0 (omega arith)

  pub aimed-rest : (x : Step) (xs : List Step) (next : Step) → AreAimed model d v runs (x ∷ xs) next → AreAimed model d v runs xs next
  aimed-rest x xs next are = record { each = λ k low. are.each (suc k) (omega (arith, low)) }

  pub aimed-append : (xs ys : List Step) (next : Step) → AreAimed model d v runs xs (first_step_or ys next)
      → AreAimed model d v runs ys next → AreAimed model d v runs (xs ++ ys) next
  aimed-append [] ys next front back = back
  aimed-append (x ∷ xs) ys next front back =
      aimed-cons x (xs ++ ys) next (ap (before model d v runs x.node) (first-append xs ys next) ∙ aimed-first x xs (first_step_or ys next) front)
      (aimed-append xs ys next (aimed-rest x xs (first_step_or ys next) front) back)

  pub aimed-left : (xs ys : List Step) (next : Step) → AreAimed model d v runs (xs ++ ys) next → AreAimed model d v runs xs (first_step_or ys next)
  aimed-left [] ys next are = aimed-none (first_step_or ys next)
  aimed-left (x ∷ xs) ys next are =
      aimed-cons x xs (first_step_or ys next) (sym (ap (before model d v runs x.node) (first-append xs ys next)) ∙ aimed-first x (xs ++ ys) next are)
      (aimed-left xs ys next (aimed-rest x (xs ++ ys) next are))

  pub aimed-right : (xs ys : List Step) (next : Step) → AreAimed model d v runs (xs ++ ys) next → AreAimed model d v runs ys next
  aimed-right [] ys next are = are
  aimed-right (x ∷ xs) ys next are = aimed-right xs ys next (aimed-rest x (xs ++ ys) next are)

  -- ---- back along nodes

  pub back-none : (next : Step) (trail : List Step) → WentBack model d v runs [] next trail trail next
  back-none next trail = record {
    steps = [];
    nodes_are = refl;
    aimed = aimed-none next;
    known = λ k other low. absurd (omega (arith, low));
    trail = sym (append_none trail);
    first_is = refl;
  }
    where
      append_none : (xs : List Step) → xs ++ [] ≡ xs
      append_none [] = refl
      append_none (x ∷ xs) = ap (λ l. x ∷ l) (append_none xs)

  pub back-one : (node : ℕ) (next step : Step) (old new : List Step) → before model d v runs node next ≡ Some step
      → IsVisitStep model step → new ≡ old ++ step ∷ [] → WentBack model d v runs (node ∷ []) next old new step
  back-one node next step old new e known trail =
      let is = before-had model d v runs node next step e in
      record {
        steps = step ∷ [];
        nodes_are = ap (λ n. n ∷ []) is.node_is;
        aimed = aimed-cons step [] next (ap (λ n. before model d v runs n next) is.node_is ∙ e) (aimed-none next);
        known = one known;
        trail = trail;
        first_is = refl;
      }
    where
      one : IsVisitStep model step → All (IsVisitStep model) (step ∷ [])
      one h zero other low = h
      one h (suc k) other low = absurd (omega (arith, low))

  -- first along the last nodes, then along those before them
  pub back-more : (xs ys nodes : List ℕ) (next mid first : Step) (old between new : List Step) → nodes ≡ xs ++ ys
      → WentBack model d v runs ys next old between mid → WentBack model d v runs xs mid between new first → WentBack model d v runs nodes next old new first
  back-more xs ys nodes next mid first old between new is b a = record {
    steps = a.steps ++ b.steps;
    nodes_are = map-append (λ (s : Step). s.node) a.steps b.steps ∙ ap₂ (λ (m n : List ℕ). m ++ n) a.nodes_are b.nodes_are ∙ sym is;
    aimed = aimed-append a.steps b.steps next (subst (AreAimed model d v runs a.steps) b.first_is a.aimed) b.aimed;
    known = All-append (IsVisitStep model) a.steps b.steps a.known b.known;
    trail = a.trail ∙ ap (λ l. l ++ reverse a.steps) b.trail ∙ append_assoc old (reverse b.steps) (reverse a.steps)
        ∙ ap (λ l. old ++ l) (sym (reverse-append a.steps b.steps));
    first_is = a.first_is ∙ ap (first_step_or a.steps) b.first_is ∙ sym (first-append a.steps b.steps next);
  }

  -- as many steps as nodes were put on the trail
  pub back-many : (nodes : List ℕ) (next first : Step) (old new : List Step)
      → WentBack model d v runs nodes next old new first → length new ≡ length old + length nodes
  back-many nodes next first old new w =
      let n = ap length w.nodes_are in
      let m = length-map w.steps (λ (s : Step). s.node) in
      let l = ap length w.trail in
      let a = length-append old (reverse w.steps) in
      let r = length-reverse w.steps in
      omega (arith, n, m, l, a, r)
