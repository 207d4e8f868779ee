-- A break whose start is put in, in the line as the code holds it.
use Rattle.std.proofs.Common.{◌≡◌, ℕ, zero, suc, ◌<◌, List, [], ◌∷◌, length, get_or, set, All, ℤ, ◌≤ℤ◌, refl, sym, subst, ap, ◌∙◌, arith}
use Rattle.std.proofs.lemmas.Int.{ints}
use Rattle.std.proofs.lemmas.List.{length-set}
use Rattle.std.proofs.lemmas.List.Elements.{All-set}
use Rattle.vr_model.specs.schedules.Lines.{Line as Defined}
use Rattle.vr_model.specs.schedules.Schedules.{no_break}
use Rattle.vr_model.specs.tables.WellFormed.{IsBreak}
use Rattle.vr_model.specs.declared.records.BreakRow.{BreakRow}
use Rattle.vr_steps.specs.declared.lines.Line.{Line}
use Rattle.vr_steps.specs.Lines.{IsLineOf, IsSoundLine}
use Rattle.vr_plan.specs.Narrow.{at_start, row_pinned}

pub put_back : (rows : List BreakRow) (i : ℕ) (row : BreakRow) (d : BreakRow) → i < length rows → set (set rows i row) i (get_or rows i d) ≡ rows
put_back [] i row d lt = absurd (omega (arith, lt))
put_back (r ∷ rs) zero row d lt = refl
put_back (r ∷ rs) (suc i) row d lt = ap (λ xs. r ∷ xs) (put_back rs i row d (omega (arith, lt)))

-- a break whose start is put in is one
pub start_is_break : (row : BreakRow) (first : ℤ) → IsBreak row → row.from ≤ℤ first → first ≤ℤ row.to → IsBreak (at_start row first)
start_is_break row first valid low high = record {
  from_in_range = omega (arith, ints, valid.from_in_range, low);
  in_order = omega (arith, ints);
  to_in_range = omega (arith, ints, valid.to_in_range, high);
  duration_in_range = valid.duration_in_range;
}

abbrev pub with_breaks : Line → List BreakRow → Line
with_breaks line rows = record { allowed = line.allowed; hops = line.hops; breaks = rows }

same_row : (r q : BreakRow) → r.from ≡ q.from → r.to ≡ q.to → r.duration ≡ q.duration → r ≡ q
same_row r q a b c = λ i. record { from = a i; to = b i; duration = c i }

-- the rows after a break was put in
pub put_is : (rows new : List BreakRow) (i : ℕ) (first : ℤ) (row : BreakRow) → new ≡ set rows i row → row.from ≡ first
    → row.to ≡ first → row.duration ≡ (get_or rows i no_break).duration → new ≡ set rows i (at_start (get_or rows i no_break) first)
put_is rows new i first row is from to duration = is ∙ ap (set rows i) (same_row row (at_start (get_or rows i no_break) first) from to duration)

pub put_sound : (line : Line) (i : ℕ) (first : ℤ) (rows : List BreakRow) → IsSoundLine line → i < length line.breaks
    → (get_or line.breaks i no_break).from ≤ℤ first → first ≤ℤ (get_or line.breaks i no_break).to
    → rows ≡ set line.breaks i (at_start (get_or line.breaks i no_break) first) → IsSoundLine (with_breaks line rows)
put_sound line i first rows sound lt low high is =
    let n = ap length is ∙ length-set line.breaks i (at_start (get_or line.breaks i no_break) first) in
    let few = sound.few_breaks in
    record {
      stops = sound.stops;
      arcs = sound.arcs;
      cumuls = sound.cumuls;
      each_hop = sound.each_hop;
      one_slack = sound.one_slack;
      few_breaks = omega (arith, n, few);
      each_break = subst (All IsBreak) (sym is)
          (All-set IsBreak line.breaks i _ (start_is_break (get_or line.breaks i no_break) first (sound.each_break i no_break lt) low high) sound.each_break);
      forward = λ some. sound.forward (omega (arith, n, some));
    }

pub put_line : (defined : Defined) (line : Line) (i : ℕ) (first : ℤ) (rows : List BreakRow) → IsLineOf defined line
    → rows ≡ set line.breaks i (at_start (get_or line.breaks i no_break) first) → IsLineOf (row_pinned defined i first) (with_breaks line rows)
put_line defined line i first rows of is = record {
  allowed = of.allowed;
  hops = of.hops;
  breaks = is ∙ ap (λ bs. set bs i (at_start (get_or bs i no_break) first)) of.breaks;
}
