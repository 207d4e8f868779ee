-- Each line has a chosen schedule or is not feasible.
use Rattle.std.proofs.Common.{◌≡◌, ℕ, zero, suc, ◌+◌, ◌<◌, Bool, true, ◌&&◌, List, [], ◌∷◌, ◌++◌, length, take, drop}
use Rattle.std.proofs.Common.{refl, sym, ◌∙◌, ap, subst, inl, inr, arith, ◌⊎◌}
use Rattle.std.specs.Prelude.{ℤ, pos, negsuc, ◌+ℤ◌, ◌-ℤ◌, ◌≤ℤ◌, ◌<ℤ◌, map, IsTrue, slice_index_or}
use Rattle.std.specs.List.{range_with_len}
use Rattle.std.proofs.lemmas.Int.{ints}
use Rattle.std.proofs.lemmas.List.{take_at, drop_at, take-append-drop, ext_get_or, length-map}
use Rattle.vr_model.specs.tables.Numbers.{number_at, below, within, horizon, is_lex_le}
use Rattle.vr_model.specs.schedules.Lines.{Line}
use Rattle.vr_model.specs.schedules.Schedules.{no_break, Plan, Sides, both_sides, KeepsRules, IsFeasible, IsChosen}
use Rattle.vr_model.specs.schedules.Schedules.{is_no_later, cumul, arc_at}
use Rattle.vr_model.specs.declared.records.BreakRow.{BreakRow}
use Rattle.vr_model.specs.deciding.Testing.{and_left, and_right, and_both, within_is}
use Rattle.vr_model.specs.deciding.ScheduleTests.{keeps_schedule_rules, keeps_rules-sound, keeps_rules-complete}
use Rattle.vr_model.specs.deciding.Boxes.{InBox, IsLeastOrNone, least_in_box}

-- the slacks that cumuls leave
abbrev slacks_of : Line → List ℤ → List ℤ
slacks_of line cumuls =
    map (λ k. (number_at cumuls (suc k) -ℤ number_at cumuls k) -ℤ (arc_at line k).transit) (below (length line.arcs))

-- the plan of a list of cumuls and break starts
abbrev pub plan_of_key : Line → List ℤ → Plan
plan_of_key line key =
    let cumuls = take (length line.allowed) key in
    record { cumuls = cumuls; slacks = slacks_of line cumuls; breaks = drop (length line.allowed) key }

-- the list by which plans are compared
abbrev pub plan_key : Plan → List ℤ
plan_key plan = plan.cumuls ++ plan.breaks

map_range : (f : ℕ → ℤ) (a n k : ℕ) → k < n → number_at (map f (range_with_len a n)) k ≡ f (a + k)
map_range f a zero k h = absurd (omega arith)
map_range f a (suc n) zero h = ap f (omega arith)
map_range f a (suc n) (suc k) h = map_range f (a + 1) n k (omega arith) ∙ ap f (omega arith)

length_range : (a n : ℕ) → length (range_with_len a n) ≡ n
length_range a zero = refl
length_range a (suc n) = ap suc (length_range (a + 1) n)

length_slacks : (line : Line) (cumuls : List ℤ) → length (slacks_of line cumuls) ≡ length line.arcs
length_slacks line cumuls = length-map (below (length line.arcs)) _ ∙ length_range 0 (length line.arcs)

slacks_determined : (sides : Sides) (line : Line) (plan : Plan) → KeepsRules sides line plan
    → slacks_of line plan.cumuls ≡ plan.slacks
slacks_determined sides line plan s = ext_get_or (pos 0) _ _ (length_slacks line plan.cumuls ∙ sym s.slack_of_each_arc)
    (λ k low. let lt : k < length line.arcs = subst (λ n. k < n) (length_slacks line plan.cumuls) low in
    map_range (λ k. (number_at plan.cumuls (suc k) -ℤ number_at plan.cumuls k) -ℤ (arc_at line k).transit) 0
    (length line.arcs) k lt
    ∙ (ap (λ k. (number_at plan.cumuls (suc k) -ℤ number_at plan.cumuls k) -ℤ (arc_at line k).transit) (omega arith)
    ∙ sym (s.slacks_left k lt)))

pub plan_of-key : (sides : Sides) (line : Line) (plan : Plan) → KeepsRules sides line plan
    → plan_of_key line (plan_key plan) ≡ plan
plan_of-key sides line plan s =
    let c : take (length line.allowed)
    (plan_key plan) ≡ plan.cumuls = take_at plan.cumuls plan.breaks _ s.cumul_of_each_stop in
    let z : drop (length line.allowed)
    (plan_key plan) ≡ plan.breaks = drop_at plan.cumuls plan.breaks _ s.cumul_of_each_stop in
    let l : slacks_of line (take (length line.allowed) (plan_key plan)) ≡ plan.slacks = ap (slacks_of line) c
    ∙ slacks_determined sides line plan s in
    λ i. record { cumuls = c i; slacks = l i; breaks = z i }

key-plan_of : (line : Line) (key : List ℤ) → plan_key (plan_of_key line key) ≡ key
key-plan_of line key = take-append-drop (length line.allowed) key

-- how many numbers lo..=hi are there, by hi - lo
abbrev size_of_range : ℤ → ℕ
size_of_range (pos n) = suc n
size_of_range (negsuc n) = 0

count_reaches : (lo hi x : ℤ) → lo ≤ℤ x → x ≤ℤ hi → x <ℤ (lo +ℤ pos (size_of_range (hi -ℤ lo)))
count_reaches lo hi x low high = go (hi -ℤ lo) refl
  where
    go : (d : ℤ) → hi -ℤ lo ≡ d → x <ℤ (lo +ℤ pos (size_of_range d))
    go (pos n) e = omega (arith, ints, low, high, e)
    go (negsuc n) e = omega (arith, ints, low, high, e)

-- the range of a break start: its least number, and how many there are
abbrev side : BreakRow → ℤ × ℕ
side row = (row.from, size_of_range (row.to -ℤ row.from))

-- the range of a cumul
abbrev cumul_side : (ℤ → Bool) → ℤ × ℕ
cumul_side test = (pos 0, size_of_range (horizon -ℤ pos 0))

-- the box of the cumuls and break starts of a line
abbrev box_of : Line → List (ℤ × ℕ)
box_of line = map cumul_side line.allowed ++ map side line.breaks

in_joined_box : (first second : List (ℤ × ℕ)) (xs ys : List ℤ) → InBox first xs → InBox second ys
    → InBox (first ++ second) (xs ++ ys)
in_joined_box [] second [] ys h g = g
in_joined_box [] second (x ∷ xs) ys h g = absurd h
in_joined_box (s ∷ first) second [] ys h g = absurd h
in_joined_box (s ∷ first) second (x ∷ xs) ys h g = (h.0, in_joined_box first second xs ys h.1 g)

cumuls_in_box : (tests : List (ℤ → Bool)) (cs : List ℤ) → length cs ≡ length tests
    → ((k : ℕ) → k < length tests → IsTrue (within (pos 0) horizon (number_at cs k))) → InBox (map cumul_side tests) cs
cumuls_in_box [] [] e h = tt
cumuls_in_box [] (c ∷ cs) e h = absurd (omega (arith, e))
cumuls_in_box (t ∷ tests) [] e h = absurd (omega (arith, e))
cumuls_in_box (t ∷ tests) (c ∷ cs) e h =
    let b = within_is (pos 0) horizon c (h 0 (omega arith)) in (
      (b.0, count_reaches (pos 0) horizon c b.0 b.1),
      cumuls_in_box tests cs (omega (arith, e))
          (λ k low. h (suc k) (omega arith)),
    )

starts_in_box : (rows : List BreakRow) (zs : List ℤ) → length zs ≡ length rows
    → ((i : ℕ) → i < length rows → ((slice_index_or rows i no_break).from ≤ℤ number_at zs i)
    × (number_at zs i ≤ℤ (slice_index_or rows i no_break).to))
    → InBox (map side rows) zs
starts_in_box [] [] e h = tt
starts_in_box [] (z ∷ zs) e h = absurd (omega (arith, e))
starts_in_box (r ∷ rows) [] e h = absurd (omega (arith, e))
starts_in_box (r ∷ rows) (z ∷ zs) e h =
    let b = h 0 (omega arith) in (
      (b.0, count_reaches r.from r.to z b.0 b.1),
      starts_in_box rows zs (omega (arith, e))
          (λ k low. h (suc k) (omega arith)),
    )

key_in_box : (sides : Sides) (line : Line) (plan : Plan) → KeepsRules sides line plan
    → InBox (box_of line) (plan_key plan)
key_in_box sides line plan s = in_joined_box (map cumul_side line.allowed) (map side line.breaks) plan.cumuls
    plan.breaks
    (cumuls_in_box line.allowed plan.cumuls s.cumul_of_each_stop
    (λ k low. and_left (within (pos 0) horizon (cumul plan k)) _ (s.cumuls_allowed k low)))
    (starts_in_box line.breaks plan.breaks s.start_of_each_break s.breaks_in_range)

-- the plan of a list keeps the rules and passes a further test
abbrev key_test : Sides → (Plan → Bool) → Line → List ℤ → Bool
key_test sides more line key = keeps_schedule_rules sides line (plan_of_key line key) && more (plan_of_key line key)

key_passes : (sides : Sides) (more : Plan → Bool) (line : Line) (plan : Plan) → KeepsRules sides line plan
    → IsTrue (more plan) → IsTrue (key_test sides more line (plan_key plan))
key_passes sides more line plan s m =
    subst (λ p. IsTrue (keeps_schedule_rules sides line p && more p)) (sym (plan_of-key sides line plan s))
    (and_both (keeps_schedule_rules sides line plan) (more plan) (keeps_rules-complete sides line plan s) m)

-- the least plan that keeps the rules and passes a further test
pub record IsLeastPlan (sides : Sides) (more : Plan → Bool) (line : Line) (plan : Plan) : Type 0 where
  pub keeps : KeepsRules sides line plan
  pub passes : IsTrue (more plan)
  pub least : (other : Plan) → KeepsRules sides line other → IsTrue (more other) → IsTrue (is_no_later plan other)

-- no plan keeps the rules and passes the test
abbrev pub NoPlan : Sides → (Plan → Bool) → Line → Type 0
NoPlan sides more line = (other : Plan) → KeepsRules sides line other → IsTrue (more other) → ⊥

plan_from : (sides : Sides) (more : Plan → Bool) (line : Line) → IsLeastOrNone (box_of line) (key_test sides more line)
    → ((plan : Plan) × IsLeastPlan sides more line plan) ⊎ NoPlan sides more line
plan_from sides more line (inl r) = inl (
  plan_of_key line r.0,
  record {
    keeps = keeps_rules-sound sides line (plan_of_key line r.0)
        (and_left (keeps_schedule_rules sides line (plan_of_key line r.0)) _ r.1.passes);
    passes = and_right (keeps_schedule_rules sides line (plan_of_key line r.0)) _ r.1.passes;
    least = λ other s m. subst (λ key. IsTrue (is_lex_le key (plan_key other))) (sym (key-plan_of line r.0))
        (r.1.least (plan_key other) (key_in_box sides line other s) (key_passes sides more line other s m));
  },
)
plan_from sides more line (inr none) =
    inr (λ other s m. none (plan_key other) (key_in_box sides line other s) (key_passes sides more line other s m))

-- The least plan that keeps the rules and passes a further test, or that there is none. The plans that keep the rules
-- lie in a finite box, which is searched.
pub find_plan : (sides : Sides) (more : Plan → Bool) (line : Line) → ((plan : Plan) × IsLeastPlan sides more line plan)
    ⊎ NoPlan sides more line
find_plan sides more line = plan_from sides more line (least_in_box (box_of line) (key_test sides more line))

-- a line has a chosen schedule, or no schedule
pub find_chosen : (line : Line) → ((plan : Plan) × IsChosen line plan) ⊎ ¬ IsFeasible line
find_chosen line = elim (find_plan both_sides (λ plan. true) line) [
  | inl r ↦ inl (r.0, record { schedule = r.1.keeps; least = λ other s. r.1.least other s refl })
  | inr none ↦ inr (λ f. none f.0 f.1 refl)
]
