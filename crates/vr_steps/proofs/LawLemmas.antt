-- The laws of levels, with those of the definitions put in: a proof that needs one cites it.
use Rattle.std.proofs.Common.{◌≡◌, ◌||◌, ℕ, zero, suc, ◌<◌, List, [], ◌∷◌, length, get_or, map, ℤ, pos, neg_ℤ, ◌+ℤ◌, ◌≤ℤ◌, false, refl, sym, subst, ap, ◌∙◌}
use Rattle.std.proofs.Common.{arith}
use Rattle.std.specs.List.{AllZip}
use Rattle.std.proofs.lemmas.Int.{ints}
use Rattle.std.proofs.lemmas.Slice.Zip.{AllZip-long}
use Rattle.std.proofs.lemmas.List.{length-map}
use Rattle.vr_spans.specs.declared.runs.Run.{Run}
use Rattle.vr_spans.specs.Runs.{has, in_run, limit, IsNormalFrom}
use Rattle.vr_model.specs.schedules.Lines.{Arc, Line as Defined}
use Rattle.vr_model.specs.schedules.Runs.{RunEnds, in_runs, IsNormalFrom as IsFormFrom}
use Rattle.vr_model.specs.schedules.Schedules.{no_arc, no_break}
use Rattle.vr_model.specs.schedules.SoundLines.{IsSound}
use Rattle.vr_model.proofs.schedules.Crossing.{reached_by_crossing}
use Rattle.vr_model.proofs.schedules.CrossingBack.{end_reached_by_crossing}
use Rattle.vr_model.proofs.schedules.Joining.{feasible_where_levels_meet}
use Rattle.vr_model.proofs.schedules.LevelEnds.{reached_at_end, reached_at_start}
use Rattle.vr_model.proofs.schedules.RunCounts.{runs_as_long_as_form}
use Rattle.vr_steps.specs.declared.hops.Hop.{Hop}
use Rattle.vr_steps.specs.Levels.{HasNumbers}
use Rattle.vr_steps.specs.declared.lines.Line.{Line}
use Rattle.vr_steps.specs.Lines.{hop_of, IsLineOf, IsSoundLine}
use Rattle.vr_steps.specs.Reached.{ArcAlone, EndIsReached, EndReachedBeforeArc, FeasibleAtEnd, FeasibleWhereShared, LinesStandForTheirs, ReachedBehindArc}
use Rattle.vr_steps.specs.Reached.{RunsAreCounted, SoundLinesAreDefined, StartIsReached}
use Rattle.vr_steps.proofs.LineLemmas.{defined_line}
use Rattle.vr_steps.proofs.ReachLemmas as reach

pub arc_alone : ArcAlone
arc_alone = reach.arc_alone

pub start_is_reached : StartIsReached
start_is_reached = reach.start_is_reached reached_at_start

pub end_is_reached : EndIsReached
end_is_reached = reach.end_is_reached reached_at_end

pub reached_behind_arc : ReachedBehindArc
reached_behind_arc = reach.reached_behind_arc reached_by_crossing

pub end_reached_before_arc : EndReachedBeforeArc
end_reached_before_arc = reach.end_reached_before_arc end_reached_by_crossing

pub feasible_where_shared : FeasibleWhereShared
feasible_where_shared = reach.feasible_where_shared feasible_where_levels_meet

pub feasible_at_end : FeasibleAtEnd
feasible_at_end = reach.feasible_at_end feasible_where_levels_meet reached_at_end

-- ---- lines

pub sound_lines_are_defined : SoundLinesAreDefined
sound_lines_are_defined = defined_line

no_hop : Hop
no_hop = record { transit = pos 0; slack = pos 0; visit = pos 0 }

all_zip_at : {A B : Type 0} (R : A → B → Type 0) (xs : List A) (ys : List B) (k : ℕ) (d : A) (e : B)
    → AllZip R xs ys → k < length ys → R (get_or xs k d) (get_or ys k e)
all_zip_at R [] [] k d e h lt = absurd (omega arith)
all_zip_at R [] (y ∷ ys) k d e h lt = absurd h
all_zip_at R (x ∷ xs) [] k d e h lt = absurd h
all_zip_at R (x ∷ xs) (y ∷ ys) zero d e h lt = h.0
all_zip_at R (x ∷ xs) (y ∷ ys) (suc k) d e h lt = all_zip_at R xs ys k d e h.1 (omega arith)

hop_is : (slack : ℤ) (arcs : List Arc) (k : ℕ) (d : Hop) → k < length arcs → get_or (map (hop_of slack) arcs) k d ≡ hop_of slack (get_or arcs k no_arc)
hop_is slack [] k d lt = absurd (omega arith)
hop_is slack (a ∷ others) zero d lt = refl
hop_is slack (a ∷ others) (suc k) d lt = hop_is slack others k d (omega arith)

-- what a sound line stands for is sound
theirs_is_sound : (defined : Defined) (made : Line) → IsLineOf defined made → IsSoundLine made → IsSound defined
theirs_is_sound defined made is sound =
    let long = ap length is.hops ∙ length-map defined.arcs (hop_of defined.slack_max) in
    let stops = AllZip-long HasNumbers defined.allowed made.allowed is.allowed in
    let hop : (k : ℕ) → k < length defined.arcs → get_or made.hops k no_hop ≡ hop_of defined.slack_max (get_or defined.arcs k no_arc) =
    λ k lt. ap (λ hops. get_or hops k no_hop) is.hops ∙ hop_is defined.slack_max defined.arcs k no_hop lt in
    record {
      stops = omega (arith, stops, long, sound.stops);
      visits = λ k lt. let e = ap (λ h. h.visit) (hop k lt) in
          let m = sound.each_hop k no_hop (omega (arith, long, lt)) in omega (arith, ints, e, m.visit.at_least);
      durations = λ i lt. subst (λ rows. pos 1 ≤ℤ (get_or rows i no_break).duration) is.breaks
          (sound.each_break i no_break (subst (λ rows. i < length rows) (sym is.breaks) lt)).duration_in_range.at_least;
      forward = λ some k lt. let e = ap (λ h. h.transit) (hop k lt) in
          let m = sound.forward (subst (λ rows. 0 < length rows) (sym is.breaks) some) k no_hop (omega (arith, long, lt)) in omega (arith, ints, e, m);
    }

-- a sound line that is that of a definition stands for it at each place
pub lines_stand_for_theirs : LinesStandForTheirs
lines_stand_for_theirs defined made is sound =
    let long = ap length is.hops ∙ length-map defined.arcs (hop_of defined.slack_max) in
    record {
      allowed = λ k lt. record { exact = all_zip_at HasNumbers defined.allowed made.allowed k (λ _. false) [] is.allowed lt; cumuls = sound.cumuls k [] lt };
      hops = λ k d lt. ap (λ hops. get_or hops k d) is.hops ∙ hop_is defined.slack_max defined.arcs k d (omega (arith, long));
      arcs = sym long;
      breaks = sym is.breaks;
      sound = theirs_is_sound defined made is sound;
    }

-- ---- runs

-- the ends of a run
abbrev ends : RunEnds Run
ends = record { lo = λ run. run.lo; hi = λ run. run.hi }

has-in_runs : (rs : List Run) (x : ℤ) → has rs x ≡ in_runs ends rs x
has-in_runs [] x = refl
has-in_runs (r ∷ rs) x = ap (λ b. in_run r x || b) (has-in_runs rs x)

form_from : (m : ℤ) (rs : List Run) → IsNormalFrom m rs → IsFormFrom ends m limit rs
form_from m [] h = tt
form_from m (r ∷ rs) h = (h.0, h.1, h.2, form_from (r.hi +ℤ pos 2) rs h.3)

-- a set of cumuls has as many runs as the definitions count
pub runs_are_counted : RunsAreCounted
runs_are_counted set normal cumuls =
    runs_as_long_as_form Run ends (neg_ℤ limit) limit (has set) set (record { normal = form_from (neg_ℤ limit) set normal; same = has-in_runs set }) cumuls
