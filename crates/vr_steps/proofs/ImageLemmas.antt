-- The images of sets over passages, and how they add up to levels.
use Rattle.std.proofs.Common.{◌≡◌, ℕ, suc, ◌-◌, ◌<◌, ◌≤◌, true, Bool, ◌&&◌, ◌||◌, ◌⊎◌, inl, inr, Option, Some, None, List, [], length, take, drop, All, ℤ, pos}
use Rattle.std.proofs.Common.{neg_ℤ, ◌+ℤ◌, ◌≤ℤ◌, refl, sym, subst, ap, ◌∙◌, arith}
use Rattle.std.specs.Prelude.{IsTrue, IsSome, IsNone, IfSome, ◌↔◌}
use Rattle.std.proofs.lemmas.Int.{ints}
use Rattle.std.proofs.lemmas.Bool.{and_parts, and_from, or_cases, or_left, or_right, cases_lt}
use Rattle.std.proofs.lemmas.List.{drop-take, drop_all, length-take}
use Rattle.vr_model.specs.tables.Numbers.{horizon, within}
use Rattle.vr_model.specs.deciding.Testing.{within_is}
use Rattle.vr_model.specs.tables.WellFormed.{IsBreak}
use Rattle.vr_model.specs.declared.records.BreakRow.{BreakRow}
use Rattle.vr_spans.specs.declared.runs.Run.{Run}
use Rattle.vr_spans.specs.Runs.{has, in_run, IsStretched}
use Rattle.vr_steps.specs.declared.hops.Hop.{Hop}
use Rattle.vr_steps.specs.declared.chains.Chain.{Chain}
use Rattle.vr_steps.specs.declared.passages.Passage.{Passage}
use Rattle.vr_steps.specs.declared.passages.Pass.{Pass}
use Rattle.vr_steps.specs.declared.ways.Way.{Way}
use Rattle.vr_steps.specs.declared.ways.Way.TheVariants.{On, Back}
use Rattle.vr_steps.specs.Arcs.{IsSoundHop, Leads, breaks_between}
use Rattle.vr_steps.specs.Chains.{CanBeginInTime, IsChainOf}
use Rattle.vr_steps.specs.Levels.{IsCumuls, level_at}
use Rattle.vr_steps.specs.Passages.{IsPassage, LeadsNowhere, IsOver, HasWay, ArrivesAt, DepartsAt, AreArrivals, AreDepartures, upto, onward}
use Rattle.vr_steps.specs.Ways.{LeadsBy, IsLedTo, pass_by}
use Rattle.vr_steps.proofs.PassageLemmas.{passage, closed}

-- the answer of a passage over a chain
module _ (hop : Hop) (rows : List BreakRow) (chain : Chain) (sound : IsSoundHop hop)
    (valid : All IsBreak rows) (some : 0 < length rows) (of : IsChainOf rows chain) where
  pub passage_some : CanBeginInTime rows → (r : Option Passage) → (IsSome r ↔ HasWay hop chain) → IfSome r (IsOver hop chain) → IfSome r (IsPassage hop rows)
  passage_some can None way is = tt
  passage_some can (Some p) way is = passage hop rows chain sound valid some of can (way.0 refl) p is

  pub passage_none : (r : Option Passage) → (IsSome r ↔ HasWay hop chain) → IsNone r → LeadsNowhere hop rows
  passage_none None way none = closed hop rows chain sound valid some of (λ w. absurd (let e = way.1 w in cc))
  passage_none (Some p) way none = absurd (cc)

in_run_parts : (r : Run) (x : ℤ) → in_run r x ≡ true → (r.lo ≤ℤ x) × (x ≤ℤ r.hi)
in_run_parts r x is = (grind (arith, ints, is), grind (arith, ints, is))

in_run_from : (r : Run) (x : ℤ) → r.lo ≤ℤ x → x ≤ℤ r.hi → in_run r x ≡ true
in_run_from r x low high = grind (arith, ints, low, high)

-- what a relation leads to from the numbers of a set, within another one: both sets are clipped, and the first is stretched into the second
module _ (Lead : ℤ → ℤ → Type 0) (from next left right image old whole : List Run) (out into : Run) (least greatest : ℤ)
    (exact : (y x : ℤ) → IsTrue (has from y) → IsTrue (has next x)
    → Lead y x ↔ (IsTrue (in_run out y) × IsTrue (in_run into x) × ((y +ℤ least) ≤ℤ x) × (x ≤ℤ (y +ℤ greatest)))) where
  added : ((y : ℤ) → has left y ≡ (has from y && in_run out y)) → ((x : ℤ) → has right x ≡ (has next x && in_run into x))
      → ((x : ℤ) → IsTrue (has image x) ↔ (IsTrue (has right x) × IsStretched least greatest left x)) → ((x : ℤ) → has whole x ≡ (has old x || has image x))
      → (x : ℤ) → IsTrue (has whole x) ↔ (IsTrue (has old x) ⊎ (IsTrue (has next x) × ((y : ℤ) × IsTrue (has from y) × Lead y x)))
  added lefts rights images wholes x = (to, back_to)
    where
      arrived : IsTrue (has image x) → IsTrue (has next x) × ((y : ℤ) × IsTrue (has from y) × Lead y x)
      arrived there =
          let both = (images x).0 there in
          let right_parts = and_parts (has next x) (in_run into x) (sym (rights x) ∙ both.0) in
          let y = both.1.0 in
          let left_parts = and_parts (has from y) (in_run out y) (sym (lefts y) ∙ both.1.1) in
          (right_parts.0, (y, left_parts.0, (exact y x left_parts.0 right_parts.0).1 (left_parts.1, right_parts.1, both.1.2, both.1.3)))

      image_of : IsTrue (has next x) × ((y : ℤ) × IsTrue (has from y) × Lead y x) → IsTrue (has image x)
      image_of (there, (y, here, way)) =
          let m = (exact y x here there).0 way in
          (images x).1 (rights x ∙ and_from _ _ there m.1, (y, lefts y ∙ and_from _ _ here m.0, m.2, m.3))

      to : IsTrue (has whole x) → IsTrue (has old x) ⊎ (IsTrue (has next x) × ((y : ℤ) × IsTrue (has from y) × Lead y x))
      to there = elim (or_cases (has old x) (has image x) (sym (wholes x) ∙ there)) [ inl kept ↦ inl kept | inr new ↦ inr (arrived new) ]

      back_to : IsTrue (has old x) ⊎ (IsTrue (has next x) × ((y : ℤ) × IsTrue (has from y) × Lead y x)) → IsTrue (has whole x)
      back_to (inl kept) = wholes x ∙ or_left (has old x) (has image x) kept
      back_to (inr new) = wholes x ∙ or_right (has old x) (has image x) (image_of new)

-- an arc over a passage, from one set to another
module _ (hop : Hop) (rows : List BreakRow) (p : Passage) (is : IsPassage hop rows p)
    (begin_run end_run : Run) (until_is : begin_run ≡ upto p.until) (from_is : end_run ≡ onward p.from) where
  -- what it asks of two cumuls
  asked : (y x : ℤ) → IsTrue (within (pos 0) horizon y) → IsTrue (within (pos 0) horizon x)
      → Leads hop rows y x ↔ (IsTrue (in_run begin_run y) × IsTrue (in_run end_run x) × ((y +ℤ p.least) ≤ℤ x) × (x ≤ℤ (y +ℤ p.greatest)))
  asked y x begins ends = (to, back_to)
    where
      to : Leads hop rows y x → IsTrue (in_run begin_run y) × IsTrue (in_run end_run x) × ((y +ℤ p.least) ≤ℤ x) × (x ≤ℤ (y +ℤ p.greatest))
      to way =
          let m = ((is.exact y x).0 way).2 in (
            subst (λ r. in_run r y ≡ true) (sym until_is) (in_run_from (upto p.until) y (within_is (pos 0) horizon y begins).0 m.until),
            subst (λ r. in_run r x ≡ true) (sym from_is) (in_run_from (onward p.from) x m.from (within_is (pos 0) horizon x ends).1),
            m.least,
            m.greatest,
          )

      back_to : IsTrue (in_run begin_run y) × IsTrue (in_run end_run x) × ((y +ℤ p.least) ≤ℤ x) × (x ≤ℤ (y +ℤ p.greatest)) → Leads hop rows y x
      back_to m =
          (is.exact y x).1 (
            begins,
            ends,
            record {
              until = (in_run_parts (upto p.until) y (subst (λ r. in_run r y ≡ true) until_is m.0)).1;
              from = (in_run_parts (onward p.from) x (subst (λ r. in_run r x ≡ true) from_is m.1)).0;
              least = m.2;
              greatest = m.3;
            },
          )

-- the same in one direction, by the pass that the passage has there
module _ (hop : Hop) (rows : List BreakRow) (p : Passage) (is : IsPassage hop rows p) where
  led_exactly : (way : Way) (pass : Pass) → pass ≡ pass_by way p → (x y : ℤ) → IsTrue (within (pos 0) horizon x) → IsTrue (within (pos 0) horizon y)
      → LeadsBy way hop rows x y ↔ (IsTrue (in_run pass.out x) × IsTrue (in_run pass.into y) × ((x +ℤ pass.least) ≤ℤ y) × (y ≤ℤ (x +ℤ pass.greatest)))
  led_exactly On pass e x y begins ends =
      let m = asked hop rows p is pass.out pass.into (ap (λ (q : Pass). q.out) e) (ap (λ (q : Pass). q.into) e) x y begins ends in
      let least : pass.least ≡ p.least = ap (λ (q : Pass). q.least) e in
      let greatest : pass.greatest ≡ p.greatest = ap (λ (q : Pass). q.greatest) e in (
        λ way. let a = m.0 way in (a.0, a.1, omega (arith, ints, least, a.2), omega (arith, ints, greatest, a.3)),
        λ a. m.1 (a.0, a.1, omega (arith, ints, least, a.2), omega (arith, ints, greatest, a.3)),
      )
  led_exactly Back pass e x y ends begins =
      let first : pass.least ≡ neg_ℤ p.greatest = ap (λ (q : Pass). q.least) e in
      let last : pass.greatest ≡ neg_ℤ p.least = ap (λ (q : Pass). q.greatest) e in
      let m = asked hop rows p is pass.into pass.out (ap (λ (q : Pass). q.into) e) (ap (λ (q : Pass). q.out) e) y x begins ends in (
        λ way. let a = m.0 way in (a.1, a.0, omega (arith, ints, first, a.3), omega (arith, ints, last, a.2)),
        λ a. m.1 (a.1, a.0, omega (arith, ints, last, a.3), omega (arith, ints, first, a.2)),
      )

  pub led_to : (way : Way) (pass : Pass) → pass ≡ pass_by way p → (from to left right image old whole : List Run) → IsCumuls from → IsCumuls to
      → ((x : ℤ) → has left x ≡ (has from x && in_run pass.out x)) → ((y : ℤ) → has right y ≡ (has to y && in_run pass.into y))
      → (least greatest : ℤ) → least ≡ pass.least → greatest ≡ pass.greatest
      → ((y : ℤ) → IsTrue (has image y) ↔ (IsTrue (has right y) × IsStretched least greatest left y)) → ((y : ℤ) → has whole y ≡ (has old y || has image y))
      → (y : ℤ) → IsTrue (has whole y) ↔ (IsTrue (has old y) ⊎ IsLedTo way from hop rows to y)
  led_to way pass e from to left right image old whole cumuls limits lefts rights least greatest least_is greatest_is =
      added (LeadsBy way hop rows) from to left right image old whole pass.out pass.into least greatest (λ x y here there.
      let m = led_exactly way pass e x y (cumuls x here) (limits y there) in (
        λ leads. let a = m.0 leads in (a.0, a.1, subst (λ n. (x +ℤ n) ≤ℤ y) (sym least_is) a.2, subst (λ n. y ≤ℤ (x +ℤ n)) (sym greatest_is) a.3),
        λ a. m.1 (a.0, a.1, subst (λ n. (x +ℤ n) ≤ℤ y) least_is a.2, subst (λ n. y ≤ℤ (x +ℤ n)) greatest_is a.3),
      )) lefts rights

pub led_nowhere : (hop : Hop) (rows : List BreakRow) → LeadsNowhere hop rows → (way : Way) (from to : List Run) (y : ℤ) → IsLedTo way from hop rows to y → ⊥
led_nowhere hop rows nowhere On from to y led = nowhere led.1.0 y led.1.2
led_nowhere hop rows nowhere Back from to y led = nowhere y led.1.0 led.1.2

-- where nothing comes in, the old is the whole
pub nothing_more : {P : Type 0} (old : Bool) → (P → ⊥) → IsTrue old ↔ (IsTrue old ⊎ P)
nothing_more {P} old none = (λ kept. inl kept, kept_of)
  where
    kept_of : IsTrue old ⊎ P → IsTrue old
    kept_of (inl kept) = kept
    kept_of (inr new) = absurd (none new)

-- the breaks between, as a slice
pub slice_between : (rows : List BreakRow) (a b : ℕ) → a ≤ b → take (b - a) (drop a rows) ≡ breaks_between rows a b
slice_between rows a b le = sym (drop-take a (b - a) rows) ∙ ap (λ n. drop a (take n rows)) (omega arith)

pub none_between : (rows : List BreakRow) (b : ℕ) → breaks_between rows b b ≡ []
none_between rows b = drop_all b (take b rows) (let n = length-take b rows in omega (arith, n))

-- the levels behind an arc, level by level
module _ (from : List (List Run)) (hop : Hop) (next : List Run) (rows : List BreakRow) (b : ℕ) where
  -- no break inside
  pub first_arrivals : (set : List Run)
      → ((x : ℤ) → IsTrue (has set x) ↔ (IsTrue (has next x) × ((y : ℤ) × IsTrue (has (level_at from b) y) × Leads hop [] y x)))
      → AreArrivals from hop next rows b b set
  first_arrivals set is x = (to, back_to)
    where
      to : IsTrue (has set x)
          → IsTrue (has next x) × ((a : ℕ) × (b ≤ a) × (a ≤ b) × (y : ℤ) × IsTrue (has (level_at from a) y) × Leads hop (breaks_between rows a b) y x)
      to there =
          let m = (is x).0 there in
          (m.0, (b, omega arith, omega arith, m.1.0, m.1.1, subst (λ rs. Leads hop rs m.1.0 x) (sym (none_between rows b)) m.1.2))

      back_to : IsTrue (has next x) × ((a : ℕ) × (b ≤ a) × (a ≤ b) × (y : ℤ) × IsTrue (has (level_at from a) y) × Leads hop (breaks_between rows a b) y x)
          → IsTrue (has set x)
      back_to (inside, (a, low, high, y, there, way)) =
          let e : a ≡ b = omega (arith, low, high) in
          (is x).1 (
            inside,
            (
              y,
              subst (λ n. IsTrue (has (level_at from n) y)) e there,
              subst (λ rs. Leads hop rs y x) (ap (λ n. breaks_between rows n b) e ∙ none_between rows b) way,
            ),
          )

  -- one number of breaks more
  pub more_arrivals : (k : ℕ) (old set : List Run) → suc k ≤ b → AreArrivals from hop next rows (suc k) b old
      → ((x : ℤ) → IsTrue (has set x) ↔ (IsTrue (has old x) ⊎ ArrivesAt (level_at from k) hop (breaks_between rows k b) next x))
      → AreArrivals from hop next rows k b set
  more_arrivals k old set le are is x = (λ there. to ((is x).0 there), λ m. (is x).1 (back_to m))
    where
      to : IsTrue (has old x) ⊎ ArrivesAt (level_at from k) hop (breaks_between rows k b) next x
          → IsTrue (has next x) × ((a : ℕ) × (k ≤ a) × (a ≤ b) × (y : ℤ) × IsTrue (has (level_at from a) y) × Leads hop (breaks_between rows a b) y x)
      to (inl kept) = let m = (are x).0 kept in (m.0, (m.1.0, let l = m.1.1 in omega (arith, l), m.1.2, m.1.3, m.1.4, m.1.5))
      to (inr (inside, (y, there, way))) = (inside, (k, omega arith, omega (arith, le), y, there, way))

      back_to : IsTrue (has next x) × ((a : ℕ) × (k ≤ a) × (a ≤ b) × (y : ℤ) × IsTrue (has (level_at from a) y) × Leads hop (breaks_between rows a b) y x)
          → IsTrue (has old x) ⊎ ArrivesAt (level_at from k) hop (breaks_between rows k b) next x
      back_to (inside, (a, low, high, y, there, way)) = elim (cases_lt k a) [
        | inl later ↦ inl ((are x).1 (inside, (a, omega (arith, later), high, y, there, way)))
        | inr first ↦ (let e : a ≡ k = omega (arith, low, first) in
            inr (inside, (y, subst (λ n. IsTrue (has (level_at from n) y)) e there, subst (λ n. Leads hop (breaks_between rows n b) y x) e way)))
      ]

-- the levels before an arc, level by level
module _ (behind : List (List Run)) (hop : Hop) (here : List Run) (rows : List BreakRow) (a : ℕ) where
  pub first_departures : (set : List Run)
      → ((y : ℤ) → IsTrue (has set y) ↔ (IsTrue (has here y) × ((x : ℤ) × IsTrue (has (level_at behind a) x) × Leads hop [] y x)))
      → AreDepartures behind hop here rows a a set
  first_departures set is y = (to, back_to)
    where
      to : IsTrue (has set y)
          → IsTrue (has here y) × ((b : ℕ) × (a ≤ b) × (b ≤ a) × (x : ℤ) × IsTrue (has (level_at behind b) x) × Leads hop (breaks_between rows a b) y x)
      to there =
          let m = (is y).0 there in
          (m.0, (a, omega arith, omega arith, m.1.0, m.1.1, subst (λ rs. Leads hop rs y m.1.0) (sym (none_between rows a)) m.1.2))

      back_to : IsTrue (has here y) × ((b : ℕ) × (a ≤ b) × (b ≤ a) × (x : ℤ) × IsTrue (has (level_at behind b) x) × Leads hop (breaks_between rows a b) y x)
          → IsTrue (has set y)
      back_to (inside, (b, low, high, x, there, way)) =
          let e : b ≡ a = omega (arith, low, high) in
          (is y).1 (
            inside,
            (
              x,
              subst (λ n. IsTrue (has (level_at behind n) x)) e there,
              subst (λ rs. Leads hop rs y x) (ap (λ n. breaks_between rows a n) e ∙ none_between rows a) way,
            ),
          )

  pub more_departures : (k : ℕ) (old set : List Run) → a ≤ k → AreDepartures behind hop here rows a k old
      → ((y : ℤ) → IsTrue (has set y) ↔ (IsTrue (has old y) ⊎ DepartsAt (level_at behind (suc k)) hop (breaks_between rows a (suc k)) here y))
      → AreDepartures behind hop here rows a (suc k) set
  more_departures k old set le are is y = (λ there. to ((is y).0 there), λ m. (is y).1 (back_to m))
    where
      to : IsTrue (has old y) ⊎ DepartsAt (level_at behind (suc k)) hop (breaks_between rows a (suc k)) here y
          → IsTrue (has here y) × ((b : ℕ) × (a ≤ b) × (b ≤ suc k) × (x : ℤ) × IsTrue (has (level_at behind b) x) × Leads hop (breaks_between rows a b) y x)
      to (inl kept) = let m = (are y).0 kept in (m.0, (m.1.0, m.1.1, let l = m.1.2 in omega (arith, l), m.1.3, m.1.4, m.1.5))
      to (inr (inside, (x, there, way))) = (inside, (suc k, omega (arith, le), omega arith, x, there, way))

      back_to :
          IsTrue (has here y) × ((b : ℕ) × (a ≤ b) × (b ≤ suc k) × (x : ℤ) × IsTrue (has (level_at behind b) x) × Leads hop (breaks_between rows a b) y x)
          → IsTrue (has old y) ⊎ DepartsAt (level_at behind (suc k)) hop (breaks_between rows a (suc k)) here y
      back_to (inside, (b, low, high, x, there, way)) = elim (cases_lt k b) [
        | inl later ↦ (let e : b ≡ suc k = omega (arith, high, later) in
            inr (inside, (x, subst (λ n. IsTrue (has (level_at behind n) x)) e there, subst (λ n. Leads hop (breaks_between rows a n) y x) e way)))
        | inr first ↦ inl ((are y).1 (inside, (b, low, omega (arith, first), x, there, way)))
      ]
