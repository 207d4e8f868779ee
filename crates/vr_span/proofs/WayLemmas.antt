-- From which starts a stop of a line without breaks is reached, and the schedules from a start to an end.
use Rattle.std.proofs.Common.{◌≡◌, ◌∙◌, ℕ, zero, suc, ◌<◌, ◌≤◌, true, false, ◌&&◌, List, [], ◌∷◌, length, get_or, set, take, drop, ℤ, pos, ◌+ℤ◌, ◌≤ℤ◌, refl}
use Rattle.std.proofs.Common.{sym, ap, subst, arith}
use Rattle.std.specs.Prelude.{IsTrue, ◌↔◌}
use Rattle.std.proofs.lemmas.Int.{ints}
use Rattle.std.proofs.lemmas.List.{length-set, get_or-set_same, get_or-set_other, get_or-take, length-take}
use Rattle.vr_model.specs.tables.Numbers.{horizon, within, is_same_number}
use Rattle.vr_model.specs.deciding.Testing.{and_left, and_right, and_both, eq_of_tests, tests_of_eq}
use Rattle.vr_model.specs.declared.records.BreakRow.{BreakRow}
use Rattle.vr_model.specs.schedules.Lines.{Line as Defined}
use Rattle.vr_model.specs.schedules.Schedules.{Plan, IsReached, IsSchedule, IsFeasible, allows, cumul}
use Rattle.vr_model.specs.schedules.SoundLines.{IsSound}
use Rattle.vr_model.specs.schedules.ChosenLaws.{pinned}
use Rattle.vr_model.specs.schedules.Levels.{FitBefore, FitAfter, CumulWhereLevelsMeet, ReachedAtEnd, ReachedAtStart, ReachedByCrossing}
use Rattle.vr_model.specs.schedules.Tight.{end_of}
use Rattle.vr_model.proofs.schedules.Narrowing.{of_pinned, to_pinned}
use Rattle.vr_spans.specs.declared.runs.Run.{Run}
use Rattle.vr_spans.specs.Runs.{has}
use Rattle.vr_steps.specs.Arcs.{Leads, breaks_between}
use Rattle.vr_steps.specs.Reached.{ArcAlone, IsAllowedSet, hop_at}
use Rattle.vr_steps.proofs.ArcLemmas.{plainly, leads}
use Rattle.vr_span.specs.declared.pieces.Piece.{Piece}
use Rattle.vr_span.specs.Pieces.{have_from, Arrive, IsShortest}
use Rattle.vr_span.specs.Starts.{AreReachedPieces, IsFirstShortest}

-- all of no breaks fit anywhere
fit_before : (rows : List BreakRow) (x : ℤ) → rows ≡ [] → FitBefore rows x
fit_before [] x e =
    ([], record { one_of_each = refl; in_range = λ i lt. absurd (omega arith); in_order = λ i lt. absurd (omega arith) }, λ i lt. absurd (omega arith))
fit_before (r ∷ rs) x e = absurd (cc)

fit_after : (rows : List BreakRow) (x : ℤ) → rows ≡ [] → FitAfter rows x
fit_after [] x e =
    ([], record { one_of_each = refl; in_range = λ i lt. absurd (omega arith); in_order = λ i lt. absurd (omega arith) }, λ i lt. absurd (omega arith))
fit_after (r ∷ rs) x e = absurd (cc)

-- a cumul that is reached is allowed
reached_allowed : (line : Defined) → IsSound line → (k b : ℕ) (x : ℤ) → k ≤ length line.arcs → IsReached line k b x → IsTrue (allows line k x)
reached_allowed line sound k b x le (plan, rules, is) =
    let here = rules.cumuls_allowed k (let n = length-take (suc k) line.allowed in let m = sound.stops in omega (arith, n, m, le)) in
    subst (λ n. IsTrue (allows line k n)) is (rw (get_or-take (suc k) line.allowed k (λ _. false) (omega arith)) at here)

module _ (line : Defined) (sound : IsSound line) where
  abbrev from : ℤ → Defined
  from s = pinned line 0 s

  starts : 0 < length line.allowed
  starts = let n = sound.stops in omega (arith, n)

  from_sound : (s : ℤ) → IsSound (from s)
  from_sound s = record {
    stops = length-set line.allowed 0 (λ y. get_or line.allowed 0 (λ _. false) y && is_same_number s y) ∙ sound.stops;
    visits = sound.visits;
    durations = sound.durations;
    forward = sound.forward;
  }

  allows_start : (s x : ℤ) → allows (from s) 0 x ≡ (within (pos 0) horizon x && (get_or line.allowed 0 (λ _. false) x && is_same_number s x))
  allows_start s x = ap (λ t. within (pos 0) horizon x && t x)
      (get_or-set_same line.allowed 0 (λ y. get_or line.allowed 0 (λ _. false) y && is_same_number s y) (λ _. false) starts)

  allows_later : (s x : ℤ) (k : ℕ) → allows (from s) (suc k) x ≡ allows line (suc k) x
  allows_later s x k = ap (λ t. within (pos 0) horizon x && t x)
      (get_or-set_other line.allowed 0 (suc k) (λ y. get_or line.allowed 0 (λ _. false) y && is_same_number s y) (λ _. false) (omega arith))

  -- ---- the start

  pub start_told : ReachedAtStart → (set : List Run) → IsAllowedSet line 0 set → (pieces : List Piece)
      → ((s x : ℤ) → IsTrue (have_from pieces s x) ↔ (IsTrue (has set x) × (s ≤ℤ x))) → AreReachedPieces line 0 pieces
  start_told law set allowed pieces are s x = (
    λ h.
        let both = (are s x).0 h in
        let in_range = allowed.cumuls x both.0 in
        let test = sym (allowed.exact x) ∙ both.0 in
        let here : IsTrue (allows (from x) 0 x) = allows_start x x
        ∙ and_both (within (pos 0) horizon x) _ in_range (and_both (get_or line.allowed 0 (λ _. false) x) _ test (tests_of_eq x x refl)) in
        (x, both.1, (law (from x) (from_sound x) 0 (omega arith) x).1 (here, fit_before (take 0 line.breaks) x refl)),
    λ (start, le, reached).
        let here = sym (allows_start start x) ∙ ((law (from start) (from_sound start) 0 (omega arith) x).0 reached).0 in
        let both = and_right (within (pos 0) horizon x) _ here in
        let same = eq_of_tests start x (and_right (get_or line.allowed 0 (λ _. false) x) _ both) in
        (are s x).1 (allowed.exact x ∙ and_left (get_or line.allowed 0 (λ _. false) x) _ both, omega (arith, ints, le, same)),
  )

  -- ---- one arc

  module _ (crossing : ReachedByCrossing) (alone : ArcAlone) (k : ℕ)
      (lt : k < length line.arcs) (set : List Run) (allowed : IsAllowedSet line (suc k) set) where
    abbrev Comes : (ℤ → Type 0) → ℤ → Type 0
    Comes reached x = IsTrue (has set x)
        × ((y : ℤ) × reached y × ((y +ℤ (hop_at line k).transit) ≤ℤ x) × (x ≤ℤ (y +ℤ ((hop_at line k).transit +ℤ (hop_at line k).slack))))

    plain_way : (s x y : ℤ) (a : ℕ) → a ≤ 0 → IsReached (from s) k a y → Leads (hop_at line k) (breaks_between line.breaks a 0) y x
        → IsReached (from s) k 0 y × ((y +ℤ (hop_at line k).transit) ≤ℤ x) × (x ≤ℤ (y +ℤ ((hop_at line k).transit +ℤ (hop_at line k).slack)))
    plain_way s x y zero le reached way = let p = plainly (hop_at line k) y x way in (reached, p.least, p.greatest)
    plain_way s x y (suc a) le reached way = absurd (omega (arith, le))

    comes : (s x : ℤ) → IsReached (from s) (suc k) 0 x → Comes (IsReached (from s) k 0) x
    comes s x reached =
        let step = (crossing (from s) (from_sound s) k 0 lt (omega arith) x).0 reached in
        let y = step.2 in
        let arc = (alone (from s) (from_sound s) k step.0 0 lt y x).0 step.4 in
        let way = plain_way s x y step.0 step.1 step.3 arc.2 in
        let here = sym (allows_later s x k) ∙ arc.1 in
        (allowed.exact x ∙ and_right (within (pos 0) horizon x) _ here, (y, way.0, way.1, way.2))

    goes : (s x : ℤ) → Comes (IsReached (from s) k 0) x → IsReached (from s) (suc k) 0 x
    goes s x (inside, (y, reached, low, high)) =
        let begin = reached_allowed (from s) (from_sound s) k 0 y (omega (arith, lt)) reached in
        let in_range = allowed.cumuls x inside in
        let end = allows_later s x k ∙ and_both (within (pos 0) horizon x) _ in_range (sym (allowed.exact x) ∙ inside) in
        let way : Leads (hop_at line k) [] y x = leads (hop_at line k) y x
        (record { begin = and_left (within (pos 0) horizon y) _ begin; «end» = in_range; least = low; greatest = high }) in
        (crossing (from s) (from_sound s) k 0 lt (omega arith) x).1 (
          0,
          omega arith,
          y,
          reached,
          (alone (from s) (from_sound s) k 0 0 lt y x).1 (begin, end, way),
        )

    -- what is told behind the arc
    pub arc_told : (pieces out : List Piece) → AreReachedPieces line k pieces → Arrive (hop_at line k) pieces set out → AreReachedPieces line (suc k) out
    arc_told pieces out told arrive s x = (
      λ h.
          let both = (arrive s x).0 h in
          let y = both.1.0 in
          let before = (told s y).0 both.1.1 in
          (before.0, before.1, goes before.0 x (both.0, (y, before.2, both.1.2, both.1.3))),
      λ (start, le, reached).
          let way = comes start x reached in
          let y = way.1.0 in
          (arrive s x).1 (way.0, (y, (told s y).1 (start, le, way.1.1), way.1.2, way.1.3)),
    )

  -- ---- the end

  module _ (meet : CumulWhereLevelsMeet) (at_end : ReachedAtEnd) (none : line.breaks ≡ []) where
    abbrev last : ℕ
    last = length line.arcs

    -- from where the end is reached a schedule goes there
    schedule_to : (s x : ℤ) → IsReached (from s) last 0 x → (plan : Plan) × IsSchedule line plan × (cumul plan 0 ≡ s) × (end_of line plan ≡ x)
    schedule_to s x reached =
        let begin = reached_allowed (from s) (from_sound s) last 0 x (omega arith) reached in
        let behind = (at_end (from s) (from_sound s) 0 (omega arith) x).1 (begin, fit_after (drop 0 line.breaks) x none) in
        let found = (meet (from s) (from_sound s) last (omega arith) x).1 (0, omega arith, reached, behind) in
        let of = of_pinned line 0 s starts found.0 found.1 in
        (found.0, of.0, of.1, found.2)

    none_taken : (s x : ℤ) (b : ℕ) → b ≤ length line.breaks → IsReached (from s) last b x → IsReached (from s) last 0 x
    none_taken s x zero le reached = reached
    none_taken s x (suc b) le reached = absurd (let n = ap length none in omega (arith, le, n))

    -- each schedule reaches its end from its start
    reached_by : (plan : Plan) → IsSchedule line plan → IsReached (from (cumul plan 0)) last 0 (end_of line plan)
    reached_by plan sch =
        let s = cumul plan 0 in
        let m = (meet (from s) (from_sound s) last (omega arith) (end_of line plan)).0 (plan, to_pinned line 0 s starts plan sch refl, refl) in
        none_taken s (end_of line plan) m.0 m.1 m.2

    module _ (pieces : List Piece) (told : AreReachedPieces line last pieces) where
      has_schedule : (plan : Plan) → IsSchedule line plan → IsTrue (have_from pieces (cumul plan 0) (end_of line plan))
      has_schedule plan sch = (told (cumul plan 0) (end_of line plan)).1 (cumul plan 0, omega (arith, ints), reached_by plan sch)

      -- the shortest piece tells the ends of the first of the shortest schedules
      pub shortest_told : (d : Piece) → IsShortest pieces d → IsFirstShortest line d.first d.lo
      shortest_told d is =
          let way = (told d.first d.lo).0 is.among in
          let found = schedule_to way.0 d.lo way.2 in
          let no_later = way.1 in
          let same = found.2 in
          let ends = found.3 in
          let least = is.least (cumul found.0 0) (end_of line found.0) (has_schedule found.0 found.1) in
          record {
            reached = (found.0, found.1, omega (arith, ints, no_later, same, ends, least), ends);
            least = λ other sch. is.least (cumul other 0) (end_of line other) (has_schedule other sch);
            earliest = λ other sch e. is.earliest (cumul other 0) (end_of line other) (has_schedule other sch) e;
          }

      -- where there is no piece there is no schedule
      pub never_told : pieces ≡ [] → IsFeasible line → ⊥
      never_told e (plan, sch) =
          let h = subst (λ ps. IsTrue (have_from ps (cumul plan 0) (end_of line plan))) e (has_schedule plan sch) in
          let f : false ≡ true → ⊥ = λ e. cc in
          f h
