-- Sets that are written one after another, and the levels that they make.
use Rattle.std.proofs.Common.{◌≡◌, ℕ, zero, suc, ◌+◌, ◌-◌, ◌*◌, ◌<◌, ◌≤◌, Bool, true, ◌&&◌, List, [], ◌∷◌, length, get_or, set, take, drop, All, ℤ, pos, neg_ℤ}
use Rattle.std.proofs.Common.{◌+ℤ◌, ◌-ℤ◌, ◌≤ℤ◌, Some, ◌⊎◌, inl, inr, refl, sym, subst, ap, ◌∙◌, arith}
use Rattle.std.specs.Prelude.{IsTrue, ◌↔◌, slice_get, ◌==◌}
use Rattle.std.proofs.lemmas.Int.{ints}
use Rattle.std.proofs.lemmas.Bool.{cases_lt, and_parts, and_from}
use Rattle.std.proofs.lemmas.List.{get_or-set_same, get_or-set_other, drop_more, length-drop, length-set, length-take-le}
use Rattle.std.proofs.lemmas.List.Elements.{All-take, All-drop}
use Rattle.std.proofs.lemmas.Option.{get_or_from_slice_get}
use Rattle.vr_model.specs.tables.WellFormed.{IsBreak}
use Rattle.vr_model.specs.tables.Numbers.{horizon, within}
use Rattle.vr_model.specs.deciding.Testing.{within_is}
use Rattle.vr_model.specs.declared.records.BreakRow.{BreakRow}
use Rattle.vr_model.specs.schedules.Levels.{FitBefore, FitAfter}
use Rattle.vr_spans.specs.declared.runs.Run.{Run}
use Rattle.vr_spans.specs.Runs.{has, in_run, IsStretched}
use Rattle.vr_steps.specs.declared.hops.Hop.{Hop}
use Rattle.vr_steps.specs.Levels.{IsCumuls, AreLevels, AreCrossed, AreCrossedBack, level_at, forward_steps, backward_steps_from}
use Rattle.vr_steps.specs.Arcs.{Leads, breaks_between}
use Rattle.vr_steps.specs.Passages.{AreArrivals, AreDepartures, ArrivesAt, DepartsAt, upto, onward}
use Rattle.vr_steps.specs.declared.ways.Way.{Way}
use Rattle.vr_steps.specs.declared.ways.Way.TheVariants.{On, Back}
use Rattle.vr_steps.specs.Ways.{AreBegunBy, AreCrossedBy, IsBegunBy, IsLedTo, IsLevelBy}
use Rattle.vr_steps.specs.Fits.{IsEarliest, IsLatest, FitsBefore, FitsAfter}
use Rattle.vr_steps.proofs.ArcLemmas.{plainly, leads}
use Rattle.vr_steps.proofs.ImageLemmas.{slice_between, first_arrivals, first_departures}

-- each of the first k sets is as P says of its place
abbrev pub HoldBelow : (ℕ → List Run → Type 0) → ℕ → List (List Run) → Type 0
HoldBelow P k sets = (j : ℕ) → j < k → P j (level_at sets j)

pub hold_more : (P : ℕ → List Run → Type 0) (k : ℕ) (sets : List (List Run)) (new : List Run)
    → k < length sets → HoldBelow P k sets → P k new → HoldBelow P (k + 1) (set sets k new)
hold_more P k sets new lt below here j low = elim (cases_lt j k) [
  | inl earlier ↦ subst (P j) (sym (get_or-set_other sets k j new [] (omega (arith, earlier)))) (below j earlier)
  | inr at ↦ (let e : j ≡ k = omega (arith, low, at) in
      subst (λ n. P n (level_at (set sets k new) n)) (sym e) (subst (P k) (sym (get_or-set_same sets k new [] lt)) here))
]

-- of the sets behind the first level, one for each of n breaks, the first k are as P says of the number of breaks taken
pub record AreWritten (P : ℕ → List Run → Type 0) (n k : ℕ) (sets : List (List Run)) : Type 0 where
  pub within : k ≤ n
  pub long : length sets ≡ n
  pub each : HoldBelow (λ j set. P (suc j) set) k sets

pub none_written : (P : ℕ → List Run → Type 0) (n : ℕ) (sets : List (List Run)) → length sets ≡ n → AreWritten P n 0 sets
none_written P n sets long = record { within = omega arith; long = long; each = λ j lt. absurd (omega (arith, lt)) }

pub written_more : (P : ℕ → List Run → Type 0) (n k : ℕ) (sets : List (List Run)) (new : List Run)
    → k < n → AreWritten P n k sets → P (k + 1) new → AreWritten P n (k + 1) (set sets k new)
written_more P n k sets new low are here =
    let long = are.long in
    let next : k + 1 ≡ suc k = omega arith in
    record {
      within = omega (arith, low);
      long = length-set sets k new ∙ long;
      each = hold_more (λ j set. P (suc j) set) k sets new (omega (arith, low, long)) are.each (subst (λ b. P b new) next here);
    }

-- the first level and the others make all
pub all_levels : (P : ℕ → List Run → Type 0) (n : ℕ) (first : List Run) (more : List (List Run)) → P 0 first
    → ((j : ℕ) → j < n → P (suc j) (level_at more j)) → (b : ℕ) → b ≤ n → P b (level_at (first ∷ more) b)
all_levels P n first more here each zero le = here
all_levels P n first more here each (suc b) le = each b (omega arith)

-- sets that are each part of a set of cumuls
pub parts_are_cumuls : (sets : List (List Run)) (whole : List Run) (n : ℕ) → length sets ≡ suc n → IsCumuls whole
    → ((b : ℕ) → b ≤ n → (x : ℤ) → IsTrue (has (level_at sets b) x) → IsTrue (has whole x)) → All IsCumuls sets
parts_are_cumuls sets whole n long cumuls part k d lt x there =
    cumuls x (part k (omega (arith, lt, long)) x (subst (λ s. IsTrue (has s x)) (same sets k d lt) there))
  where
    same : (sets : List (List Run)) (k : ℕ) (d : List Run) → k < length sets → get_or sets k d ≡ level_at sets k
    same [] k d lt = absurd (omega arith)
    same (s ∷ ss) zero d lt = refl
    same (s ∷ ss) (suc k) d lt = same ss k d (omega arith)

module _ (from : List (List Run)) (hop : Hop) (next : List Run) (rows : List BreakRow) (first : List Run) (more : List (List Run)) where
  crossed_levels : AreArrivals from hop next rows 0 0 first
      → ((j : ℕ) → j < length rows → AreArrivals from hop next rows 0 (suc j) (level_at more j)) → AreCrossed from hop next rows (first ∷ more)
  crossed_levels here each b few x =
      let is = all_levels (λ b set. AreArrivals from hop next rows 0 b set) (length rows) first more here each b few x in (
        λ there. let m = is.0 there in (m.0, (m.1.0, m.1.2, m.1.3, m.1.4, m.1.5)),
        λ m. is.1 (m.0, (m.1.0, omega arith, m.1.1, m.1.2, m.1.3, m.1.4)),
      )

  crossed_back_levels : AreDepartures from hop next rows 0 (length rows) first
      → ((j : ℕ) → j < length rows → AreDepartures from hop next rows (suc j) (length rows) (level_at more j))
      → AreCrossedBack from hop next rows (first ∷ more)
  crossed_back_levels here each = all_levels (λ a set. AreDepartures from hop next rows a (length rows) set) (length rows) first more here each

-- the levels to which an arc leads, in one direction
pub crossed_by : (way : Way) (from : List (List Run)) (hop : Hop) (to : List Run) (rows : List BreakRow) (first : List Run) (more : List (List Run))
    → IsLevelBy way from hop to rows 0 first → ((j : ℕ) → j < length rows → IsLevelBy way from hop to rows (suc j) (level_at more j))
    → AreCrossedBy way from hop to rows (first ∷ more)
crossed_by On from hop to rows first more = crossed_levels from hop to rows first more
crossed_by Back from hop to rows first more = crossed_back_levels from hop to rows first more

-- each is part of what the other stop allows
pub crossed_are : (way : Way) (from : List (List Run)) (hop : Hop) (to : List Run) (rows : List BreakRow) (reached : List (List Run))
    → AreCrossedBy way from hop to rows reached → length reached ≡ suc (length rows) → IsCumuls to → AreLevels rows reached
crossed_are way from hop to rows reached are long cumuls =
    record { one_more = long; cumuls = parts_are_cumuls reached to (length rows) long cumuls (part way are) }
  where
    part : (w : Way) → AreCrossedBy w from hop to rows reached → (b : ℕ) → b ≤ length rows → (x : ℤ) → IsTrue (has (level_at reached b) x) → IsTrue (has to x)
    part On crossed b few x there = ((crossed b few x).0 there).0
    part Back crossed b few x there = ((crossed b few x).0 there).0

-- those of an arc on which no break can be taken
plain_level : (way : Way) (from : List (List Run)) (hop : Hop) (to set : List Run)
    → ((y : ℤ) → IsTrue (has set y) ↔ IsLedTo way (level_at from 0) hop [] to y) → IsLevelBy way from hop to [] 0 set
plain_level On from hop to set is = first_arrivals from hop to [] 0 set is
plain_level Back from hop to set is = first_departures from hop to [] 0 set is

pub plain_crossed :
    (way : Way) (from : List (List Run)) (hop : Hop) (to : List Run) (rows : List BreakRow) (level set : List Run) (others more : List (List Run))
    → rows ≡ [] → level ∷ others ≡ from → ((y : ℤ) → IsTrue (has set y) ↔ IsLedTo way level hop [] to y) → AreCrossedBy way from hop to rows (set ∷ more)
plain_crossed way from hop to [] level set others more none whole is =
    subst (λ ls. AreCrossedBy way ls hop to [] (set ∷ more)) whole
    (crossed_by way (level ∷ others) hop to [] set more (plain_level way (level ∷ others) hop to set is) (λ j low. absurd (omega (arith, low))))
plain_crossed way from hop to (r ∷ rs) level set others more none whole is = absurd (cc)

-- the levels of the stop where a walk in one direction begins
pub begun_by : (way : Way) (allowed : List Run) (rows : List BreakRow) (first : List Run) (more : List (List Run)) → IsBegunBy way allowed rows 0 first
    → ((j : ℕ) → j < length rows → IsBegunBy way allowed rows (suc j) (level_at more j)) → AreBegunBy way allowed rows (first ∷ more)
begun_by On allowed rows first more here each = all_levels (λ b set. FitsBefore allowed (take b rows) set) (length rows) first more here each
begun_by Back allowed rows first more here each = all_levels (λ b set. FitsAfter allowed (drop b rows) set) (length rows) first more here each

-- each is part of what the stop allows
pub begun_are : (way : Way) (allowed : List Run) (rows : List BreakRow) (levels : List (List Run))
    → AreBegunBy way allowed rows levels → length levels ≡ suc (length rows) → IsCumuls allowed → AreLevels rows levels
begun_are way allowed rows levels are long cumuls =
    record { one_more = long; cumuls = parts_are_cumuls levels allowed (length rows) long cumuls (part way are) }
  where
    part : (w : Way) → AreBegunBy w allowed rows levels → (b : ℕ) → b ≤ length rows → (x : ℤ) → IsTrue (has (level_at levels b) x) → IsTrue (has allowed x)
    part On begun b few x there = ((begun b few x).0 there).0
    part Back begun b few x there = ((begun b few x).0 there).0

inside_from : (lo hi x : ℤ) → lo ≤ℤ x → x ≤ℤ hi → IsTrue (within lo hi x)
inside_from lo hi x low high = grind (arith, ints, low, high)

-- the allowed cumuls in a run, which are those that are so
clipped : (allowed set : List Run) (run : Run) (So : ℤ → Type 0) → IsCumuls allowed → ((x : ℤ) → pos 0 ≤ℤ x → x ≤ℤ horizon → So x ↔ IsTrue (in_run run x))
    → ((x : ℤ) → has set x ≡ (has allowed x && in_run run x)) → (x : ℤ) → IsTrue (has set x) ↔ (IsTrue (has allowed x) × So x)
clipped allowed set run So cumuls same exact x = (to, back_to)
  where
    to : IsTrue (has set x) → IsTrue (has allowed x) × So x
    to there =
        let parts = and_parts (has allowed x) (in_run run x) (sym (exact x) ∙ there) in
        let range = within_is (pos 0) horizon x (cumuls x parts.0) in
        (parts.0, (same x range.0 range.1).1 parts.1)

    back_to : IsTrue (has allowed x) × So x → IsTrue (has set x)
    back_to (there, so) =
        let range = within_is (pos 0) horizon x (cumuls x there) in
        exact x ∙ and_from _ _ there ((same x range.0 range.1).0 so)

-- the allowed cumuls from the earliest on
pub fits_before : (allowed set : List Run) (rows : List BreakRow) (first : ℤ) (run : Run) → IsCumuls allowed → IsEarliest rows first
    → run ≡ onward first → ((x : ℤ) → has set x ≡ (has allowed x && in_run run x)) → FitsBefore allowed rows set
fits_before allowed set rows first run cumuls earliest is = clipped allowed set run (FitBefore rows) cumuls (λ x low high. (
  λ fits. subst (λ r. IsTrue (in_run r x)) (sym is) (inside_from first horizon x ((earliest.exact x low high).0 fits) high),
  λ inside. (earliest.exact x low high).1 (within_is first horizon x (subst (λ r. IsTrue (in_run r x)) is inside)).0,
))

-- the allowed cumuls up to the latest
pub fits_after : (allowed set : List Run) (rows : List BreakRow) (last : ℤ) (run : Run) → IsCumuls allowed
    → IsLatest rows last → run ≡ upto last → ((x : ℤ) → has set x ≡ (has allowed x && in_run run x)) → FitsAfter allowed rows set
fits_after allowed set rows last run cumuls latest is = clipped allowed set run (FitAfter rows) cumuls (λ x low high. (
  λ fits. subst (λ r. IsTrue (in_run r x)) (sym is) (inside_from (pos 0) last x low ((latest.exact x low high).0 fits)),
  λ inside. (latest.exact x low high).1 (within_is (pos 0) last x (subst (λ r. IsTrue (in_run r x)) is inside)).1,
))

-- steps of the levels that are left
pub forward_more : (sets : List (List Run)) (k : ℕ) → k < length sets
    → forward_steps (drop k sets) ≡ length (level_at sets k) * (length sets - k) + forward_steps (drop (k + 1) sets)
forward_more sets k lt = ap forward_steps (drop_more sets k [] lt)
    ∙ ap (λ n. length (level_at sets k) * n + forward_steps (drop (k + 1) sets)) (let n = length-drop (k + 1) sets in omega (arith, n, lt))

pub backward_more : (sets : List (List Run)) (n k : ℕ) → k < length sets
    → backward_steps_from n (drop k sets) ≡ length (level_at sets k) * suc n + backward_steps_from (suc n) (drop (k + 1) sets)
backward_more sets n k lt = ap (backward_steps_from n) (drop_more sets k [] lt)

-- an arc without breaks inside, from a set and to a set
module _ (hop : Hop) (level within_set out : List Run) (first last : ℤ) (cumuls : IsCumuls level) (limits : IsCumuls within_set) where
  pub plain_arrivals : first ≡ hop.transit → last ≡ hop.transit +ℤ hop.slack
      → ((x : ℤ) → IsTrue (has out x) ↔ (IsTrue (has within_set x) × IsStretched first last level x)) → (x : ℤ)
      → IsTrue (has out x) ↔ (IsTrue (has within_set x) × ((y : ℤ) × IsTrue (has level y) × Leads hop [] y x))
  plain_arrivals e f is x = (
    λ there. let m = (is x).0 there in (
      m.0,
      (
        m.1.0,
        m.1.1,
        leads hop m.1.0 x
            (record { begin = cumuls m.1.0 m.1.1; «end» = limits x m.0; least = omega (arith, ints, e, m.1.2); greatest = omega (arith, ints, f, m.1.3) }),
      ),
    ),
    λ m. let plain = plainly hop m.1.0 x m.1.2 in (is x).1 (m.0, (m.1.0, m.1.1, omega (arith, ints, e, plain.least), omega (arith, ints, f, plain.greatest))),
  )

  pub plain_departures : first ≡ neg_ℤ hop.transit -ℤ hop.slack → last ≡ neg_ℤ hop.transit
      → ((y : ℤ) → IsTrue (has out y) ↔ (IsTrue (has within_set y) × IsStretched first last level y)) → (y : ℤ)
      → IsTrue (has out y) ↔ (IsTrue (has within_set y) × ((x : ℤ) × IsTrue (has level x) × Leads hop [] y x))
  plain_departures e f is y = (
    λ there. let m = (is y).0 there in (
      m.0,
      (
        m.1.0,
        m.1.1,
        leads hop y m.1.0
            (record { begin = limits y m.0; «end» = cumuls m.1.0 m.1.1; least = omega (arith, ints, f, m.1.3); greatest = omega (arith, ints, e, m.1.2) }),
      ),
    ),
    λ m. let plain = plainly hop y m.1.0 m.1.2 in (is y).1 (m.0, (m.1.0, m.1.1, omega (arith, ints, e, plain.greatest), omega (arith, ints, f, plain.least))),
  )

-- a level that was read
pub level_is : (levels : List (List Run)) (b : ℕ) (set : List Run) → slice_get levels b ≡ Some set → level_at levels b ≡ set
level_is levels b set is = get_or_from_slice_get levels b set [] is

pub level_cumuls : (rows : List BreakRow) (levels : List (List Run)) (b : ℕ) (set : List Run)
    → AreLevels rows levels → b ≤ length rows → slice_get levels b ≡ Some set → IsCumuls set
level_cumuls rows levels b set are le is = subst IsCumuls (level_is levels b set is) (are.cumuls b [] (let n = are.one_more in omega (arith, n, le)))

-- breaks of a slice
pub slice_breaks : (rows : List BreakRow) (a n : ℕ) → All IsBreak rows → All IsBreak (take n (drop a rows))
slice_breaks rows a n valid = All-take IsBreak n (drop a rows) (All-drop IsBreak a rows valid)

pub slice_long : (rows : List BreakRow) (a b : ℕ) → a ≤ b → b ≤ length rows → length (take (b - a) (drop a rows)) ≡ b - a
slice_long rows a b le within = length-take-le (b - a) (drop a rows) (let n = length-drop a rows in omega (arith, le, within, n))

-- what was added, from the level that was read and the breaks of the slice
pub read_arrivals : (levels : List (List Run)) (hop : Hop) (rows : List BreakRow) (a b : ℕ) (set next old new : List Run)
    → a ≤ b → slice_get levels a ≡ Some set
    → ((x : ℤ) → IsTrue (has new x) ↔ (IsTrue (has old x) ⊎ ArrivesAt set hop (take (b - a) (drop a rows)) next x)) → (x : ℤ)
    → IsTrue (has new x) ↔ (IsTrue (has old x) ⊎ ArrivesAt (level_at levels a) hop (breaks_between rows a b) next x)
read_arrivals levels hop rows a b set next old new le read is =
    subst (λ rs. (x : ℤ) → IsTrue (has new x) ↔ (IsTrue (has old x) ⊎ ArrivesAt (level_at levels a) hop rs next x)) (slice_between rows a b le)
    (subst (λ s. (x : ℤ) → IsTrue (has new x) ↔ (IsTrue (has old x) ⊎ ArrivesAt s hop (take (b - a) (drop a rows)) next x))
    (sym (level_is levels a set read)) is)

pub read_departures : (levels : List (List Run)) (hop : Hop) (rows : List BreakRow) (a b : ℕ) (set here old new : List Run)
    → a ≤ b → slice_get levels b ≡ Some set
    → ((y : ℤ) → IsTrue (has new y) ↔ (IsTrue (has old y) ⊎ DepartsAt set hop (take (b - a) (drop a rows)) here y)) → (y : ℤ)
    → IsTrue (has new y) ↔ (IsTrue (has old y) ⊎ DepartsAt (level_at levels b) hop (breaks_between rows a b) here y)
read_departures levels hop rows a b set here old new le read is =
    subst (λ rs. (y : ℤ) → IsTrue (has new y) ↔ (IsTrue (has old y) ⊎ DepartsAt (level_at levels b) hop rs here y)) (slice_between rows a b le)
    (subst (λ s. (y : ℤ) → IsTrue (has new y) ↔ (IsTrue (has old y) ⊎ DepartsAt s hop (take (b - a) (drop a rows)) here y))
    (sym (level_is levels b set read)) is)

none_from_test : (n : ℕ) (empty : Bool) → empty ≡ true → empty ≡ (n == 0) → n ≡ 0
none_from_test n empty is e = grind arith

nil_from_length : (rows : List BreakRow) → length rows ≡ 0 → rows ≡ []
nil_from_length [] e = refl
nil_from_length (r ∷ rs) e = absurd (omega (arith, e))

-- breaks that a test finds to be none
pub no_breaks : (rows held : List BreakRow) (empty : Bool) → empty ≡ true → empty ≡ (length held == 0) → held ≡ rows → rows ≡ []
no_breaks rows held empty is e same = sym same ∙ nil_from_length held (none_from_test (length held) empty is e)
