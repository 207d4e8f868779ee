-- Break starts put in one after another.
use Rattle.std.proofs.Common.{◌≡◌, ℕ, zero, suc, ◌+◌, ◌<◌, ◌^◌, true, false, List, [], ◌∷◌, ◌++◌, length, get_or, Option, Some, None, ℤ, pos, ◌+ℤ◌, ◌≤ℤ◌, inl}
use Rattle.std.proofs.Common.{inr, refl, sym, subst, ap, ◌∙◌, arith}
use Rattle.std.specs.Prelude.{is_some, IfSome}
use Rattle.std.proofs.lemmas.Int.{ints, clamps}
use Rattle.std.proofs.lemmas.Bool.{cases_lt}
use Rattle.std.proofs.lemmas.List.{get_or_append_left, length-append, length-set, ext_get_or}
use Rattle.vr_model.specs.tables.Numbers.{number_at}
use Rattle.vr_model.specs.tables.WellFormed.{IsIn}
use Rattle.vr_model.specs.schedules.Lines.{Line as Defined}
use Rattle.vr_model.specs.schedules.Schedules.{Plan, IsSchedule, IsChosen, IsFeasible, break_at, break_start, break_end, no_break}
use Rattle.vr_model.specs.schedules.Choices.{chosen}
use Rattle.vr_model.proofs.schedules.ChoiceLaws.{chosen_is_least, chosen_where_feasible}
use Rattle.vr_model.specs.declared.records.BreakRow.{BreakRow}
use Rattle.vr_reach.specs.Shared.{lesser_of}
use Rattle.vr_steps.specs.declared.lines.Line.{Line}
use Rattle.vr_steps.specs.Lines.{IsLineOf, IsSoundLine}
use Rattle.vr_steps.specs.Reached.{StandsFor}
use Rattle.vr_steps.proofs.LawLemmas.{lines_stand_for_theirs}
use Rattle.vr_plan.specs.Plans.{no_hop}
use Rattle.vr_plan.specs.Narrow.{row_pinned, first_at, stands_at, IsLeastTried, IsLeastStart, IsStartOf, with_start}
use Rattle.vr_plan.specs.Settled.{IsUnfeasible}
use Rattle.vr_plan.specs.Starts.{HaveCumuls, HaveStarts}
use Rattle.vr_plan.proofs.RowPins.{of_row_pinned, same_duration, least_start_may_be_pinned}
use Rattle.vr_plan.proofs.StartLemmas.{put_sound, put_line}
use Rattle.vr_plan.proofs.StartChoice.{IsReady, least_of_tried, none_of_tried}

-- the lesser of two starts of a break is one
pub lesser_start : (row : BreakRow) (a b : Option ℤ) → IfSome a (IsStartOf row) → IfSome b (IsStartOf row) → IfSome (lesser_of a b) (IsStartOf row)
lesser_start row None b x y = y
lesser_start row (Some u) None x y = x
lesser_start row (Some u) (Some v) x y = record { from = omega (arith, ints, clamps, x.from, y.from); to = omega (arith, ints, clamps, x.to, y.to) }

-- a narrower line, whose first i breaks start where the starts say
pub record ArePinned (defined : Defined) (line : Line) (cumuls : List ℤ) (i : ℕ) (starts : List ℤ) (ready : ℤ) (narrow : Defined) : Type 0 where
  pub of : IsLineOf narrow line
  pub feasible : IsFeasible defined → IsFeasible narrow
  pub chosen : (plan : Plan) → IsChosen narrow plan → IsChosen defined plan
  pub settled : (q : Plan) → IsSchedule narrow q → q.cumuls ≡ cumuls
  pub started : (q : Plan) → IsSchedule narrow q → (j : ℕ) → j < i → break_start q j ≡ number_at starts j
  pub is_ready : i < length narrow.breaks → IsReady narrow i ready

-- the first i breaks are settled
pub record AreStarted (begun line : Line) (cumuls : List ℤ) (i : ℕ) (starts : List ℤ) (ready : ℤ) : Type 0 where
  pub start_of_each : length starts ≡ i
  pub sound : IsSoundLine line
  pub hops : line.hops ≡ begun.hops
  pub number : length line.breaks ≡ length begun.breaks
  pub ready_in_range : IsIn (pos 0) (pos (2 ^ 40)) ready
  pub pinned : (defined : Defined) → IsLineOf defined begun → (narrow : Defined) × ArePinned defined line cumuls i starts ready narrow

-- at first
pub none_started : (line : Line) (cumuls : List ℤ) → IsSoundLine line → HaveCumuls line cumuls → AreStarted line line cumuls 0 [] (pos 0)
none_started line cumuls sound have = record {
  start_of_each = refl;
  sound = sound;
  hops = refl;
  number = refl;
  ready_in_range = record { at_least = omega (arith, ints); at_most = omega (arith, ints) };
  pinned = λ defined of. (
    defined,
    record {
      of = of;
      feasible = λ f. f;
      chosen = λ plan c. c;
      settled = have defined of;
      started = λ q s j lt. absurd (omega (arith, lt));
      is_ready = λ some. record {
        in_time = λ q s. let range = s.breaks_in_range 0 some in
            let row = sound.each_break 0 no_break (subst (λ rows. 0 < length rows) (sym of.breaks) some) in
            let same = ap (λ rows. (get_or rows 0 no_break).from) of.breaks in omega (arith, ints, range.0, row.from_in_range, same);
        over = λ q s j e. absurd (omega (arith, e));
      };
    },
  );
}

start_before : (starts : List ℤ) (x : ℤ) (j : ℕ) → j < length starts → number_at (starts ++ x ∷ []) j ≡ number_at starts j
start_before starts x j lt = get_or_append_left starts (x ∷ []) (pos 0) j lt

start_last : (starts : List ℤ) (x : ℤ) (j : ℕ) → length starts ≡ j → number_at (starts ++ x ∷ []) j ≡ x
start_last [] x zero e = refl
start_last [] x (suc j) e = absurd (omega (arith, e))
start_last (z ∷ zs) x zero e = absurd (omega (arith, e))
start_last (z ∷ zs) x (suc j) e = start_last zs x j (omega (arith, e))

module _ (begun line : Line) (cumuls : List ℤ) (i : ℕ) (starts : List ℤ) (ready : ℤ) (m : AreStarted begun line cumuls i starts ready)
    (there : i < length line.breaks) (stops : length cumuls ≡ suc (length line.hops)) where
  row : BreakRow
  row = get_or line.breaks i no_break

  module _ (defined : Defined) (of : IsLineOf defined begun) where
    abbrev narrow : Defined
    narrow = (m.pinned defined of).0

    p : ArePinned defined line cumuls i starts ready narrow
    p = (m.pinned defined of).1

    s : StandsFor narrow line
    s = lines_stand_for_theirs narrow line p.of m.sound

    there_too : i < length narrow.breaks
    there_too = subst (λ rows. i < length rows) p.of.breaks there

    row_is : get_or line.breaks i no_break ≡ break_at narrow i
    row_is = ap (λ rows. get_or rows i no_break) p.of.breaks

    low : pos 0 ≤ℤ (break_at narrow i).from
    low = let valid = m.sound.each_break i no_break there in let same = ap (λ r. r.from) row_is in omega (arith, ints, valid.from_in_range, same)

    visits : (k : ℕ) → k < length line.hops → (get_or line.hops k no_hop).visit ≡ (Rattle.vr_model.specs.schedules.Schedules.arc_at narrow k).visit
    visits k lt = ap (λ h. h.visit) (s.hops k no_hop lt)

    transits : (k : ℕ) → k < length line.hops → (get_or line.hops k no_hop).transit ≡ (Rattle.vr_model.specs.schedules.Schedules.arc_at narrow k).transit
    transits k lt = ap (λ h. h.transit) (s.hops k no_hop lt)

    as_theirs : (best : Option ℤ) → IsLeastStart line cumuls i ready best
        → IsLeastTried narrow i (break_at narrow i).to (first_at line.hops cumuls (break_at narrow i) ready)
        (stands_at line.hops cumuls (break_at narrow i) ready) (suc (suc (length line.hops))) best
    as_theirs best tried =
        subst (λ n. IsLeastTried narrow i (break_at narrow i).to (first_at line.hops cumuls (break_at narrow i) ready)
        (stands_at line.hops cumuls (break_at narrow i) ready) n best) (ap suc stops)
        (subst (λ r. IsLeastTried narrow i r.to (first_at line.hops cumuls r ready) (stands_at line.hops cumuls r ready) (suc (length cumuls)) best)
        row_is (tried narrow p.of))

  -- where no start can be had
  pub stopped : IsLeastStart line cumuls i ready None → IsUnfeasible begun
  stopped tried defined of feasible =
      none_of_tried (narrow defined of) (s defined of).sound line.hops (sym (s defined of).arcs) (visits defined of) (transits defined of)
      cumuls (p defined of).settled i (there_too defined of) (low defined of) ready ((p defined of).is_ready (there_too defined of))
      (as_theirs defined of None tried) ((p defined of).feasible feasible)

  -- one break more is settled
  pub started_more : (x : ℤ) → IsStartOf (get_or line.breaks i no_break) x → IsLeastStart line cumuls i ready (Some x)
      → AreStarted begun (with_start line i x) cumuls (i + 1) (starts ++ x ∷ []) (x +ℤ (get_or line.breaks i no_break).duration)
  started_more x start tried =
      let valid = m.sound.each_break i no_break there in
      record {
        start_of_each = length-append starts (x ∷ []) ∙ ap (λ n. n + 1) m.start_of_each;
        sound = put_sound line i x _ m.sound there start.from start.to refl;
        hops = m.hops;
        number = length-set line.breaks i _ ∙ m.number;
        ready_in_range = record {
          at_least = omega (arith, ints, start.from, valid.from_in_range, valid.duration_in_range);
          at_most = omega (arith, ints, start.to, valid.to_in_range, valid.duration_in_range);
        };
        pinned = λ defined of.
            let q_line = narrow defined of in
            let mine = p defined of in
            let lt = there_too defined of in
            let same = row_is defined of in
            let from : (break_at q_line i).from ≤ℤ x = subst (λ r. r.from ≤ℤ x) same start.from in
            let to : x ≤ℤ (break_at q_line i).to = subst (λ r. x ≤ℤ r.to) same start.to in
            let least = as_theirs defined of (Some x) tried in
            let n = m.start_of_each in (
              row_pinned q_line i x,
              record {
                of = put_line q_line line i x _ mine.of refl;
                feasible = λ f. least.2;
                chosen = λ plan c. mine.chosen plan (least_start_may_be_pinned q_line i x lt from to
                    (λ a b sa sb. mine.settled a sa ∙ sym (mine.settled b sb))
                    (λ a b sa sb j less. mine.started a sa j less ∙ sym (mine.started b sb j less))
                    (least_of_tried q_line (s defined of).sound line.hops (sym (s defined of).arcs) (visits defined of)
                    (transits defined of) cumuls mine.settled i lt (low defined of) ready (mine.is_ready lt) x least) plan c);
                settled = λ a sa. mine.settled a (of_row_pinned q_line i x lt a from to sa).0;
                started = λ a sa j less.
                    let both = of_row_pinned q_line i x lt a from to sa in
                    elim (cases_lt j i) [
                      | inl earlier ↦ mine.started a both.0 j earlier ∙ sym (start_before starts x j (omega (arith, earlier, n)))
                      | inr at ↦ (let e : i ≡ j = omega (arith, less, at) in ap (break_start a) (sym e) ∙ (both.1 ∙ sym (start_last starts x j (n ∙ e))))
                    ];
                is_ready = λ more. record {
                  in_time = λ a sa.
                      let both = of_row_pinned q_line i x lt a from to sa in
                      let next : i + 1 ≡ suc i = omega arith in
                      let order = sa.breaks_in_order i (omega (arith, more)) in
                      let long = same_duration q_line i x lt i in
                      let theirs = ap (λ r. r.duration) same in
                      let here = ap (break_start a) next in
                      omega (arith, ints, order, both.1, long, theirs, here);
                  over = λ a sa j e.
                      let both = of_row_pinned q_line i x lt a from to sa in
                      let at : i ≡ j = omega (arith, e) in
                      let long = same_duration q_line i x lt i in
                      let theirs = ap (λ r. r.duration) same in
                      subst (λ k. break_end (row_pinned q_line i x) a k ≤ℤ (x +ℤ (get_or line.breaks i no_break).duration))
                      at (omega (arith, ints, both.1, long, theirs));
                };
              },
            );
      }

some_of : {A : Type 0} (found : Option A) → is_some found ≡ true → (x : A) × (found ≡ Some x)
some_of None is = absurd (let f : false ≡ true → ⊥ = λ e. cc in f is)
some_of (Some x) is = (x, refl)

-- where all are settled
pub all_started : (begun line : Line) (cumuls : List ℤ) (i : ℕ) (starts : List ℤ) (ready : ℤ)
    → AreStarted begun line cumuls i starts ready → i ≡ length begun.breaks → HaveStarts begun starts
all_started begun line cumuls i starts ready m all defined of has =
    let narrow = (m.pinned defined of).0 in
    let p = (m.pinned defined of).1 in
    let found = some_of (chosen narrow) ((chosen_where_feasible narrow).1 (p.feasible has)) in
    let plan = found.0 in
    let is = (chosen_is_least narrow plan).0 found.1 in
    let long : length plan.breaks ≡ length starts = let a = is.schedule.start_of_each_break in
    let b = ap length p.of.breaks in let c = m.number in let d = m.start_of_each in omega (arith, a, b, c, d, all) in (
      plan,
      p.chosen plan is,
      ext_get_or (pos 0) plan.breaks starts long (λ j lt. p.started plan is.schedule j (let d = m.start_of_each in omega (arith, lt, long, d))),
    )

-- what was tried, named otherwise
pub retry : (line : Line) (i : ℕ) (cumuls : List ℤ) (r r' : ℤ) (best best' : Option ℤ)
    → IsLeastStart line cumuls i r best → r ≡ r' → best ≡ best' → IsLeastStart line cumuls i r' best'
retry line i cumuls r r' best best' tried a b = subst (IsLeastStart line cumuls i r') b (subst (λ q. IsLeastStart line cumuls i q best) a tried)
