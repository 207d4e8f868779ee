use Rattle.std.proofs.Common.{set, ap, ap₂, ◌∙◌, arith}
use Rattle.std.proofs.lemmas.Int.{ints}
use Rattle.vr_model.specs.schedules.Schedules.{no_break}
use Rattle.vr_model.specs.declared.records.BreakRow.{BreakRow}
use Rattle.vr_plan.specs.Narrow.{row_pinned}
use Rattle.vr_plan.proofs.StartLemmas.{put_is, put_sound, put_line, put_back, with_breaks}
use Rattle.vr_plan.proofs.starts.can_start.Goals as goal

pub goes_along-requires : goal.goes_along-requires
goes_along-requires c =
    let valid = c.requires.sound.each_break c.args.i no_break c.requires.place in
    let from = c.requires.from in
    let to = c.requires.to in
    let length = ap (λ (r : BreakRow). r.duration) c.row_at-row.ensures in
    let is = put_is c.args.line.now.breaks c.put_row.new.breaks c.args.i c.args.first _ c.put_row.ensures
    (omega (arith, ints, valid, from, to)) (omega (arith, ints, valid, from, to)) (omega (arith, ints, valid.duration_in_range, length)) in
    put_sound c.args.line.now c.args.i c.args.first c.put_row.new.breaks c.requires.sound c.requires.place from to is

pub returns-clause-exact : goal.returns-clause-exact
returns-clause-exact c = λ defined of.
    let valid = c.requires.sound.each_break c.args.i no_break c.requires.place in
    let from = c.requires.from in
    let to = c.requires.to in
    let length = ap (λ (r : BreakRow). r.duration) c.row_at-row.ensures in
    let is = put_is c.args.line.now.breaks c.put_row.new.breaks c.args.i c.args.first _ c.put_row.ensures
    (omega (arith, ints, valid, from, to)) (omega (arith, ints, valid, from, to)) (omega (arith, ints, valid.duration_in_range, length)) in
    c.in_ok-can.ensures (row_pinned defined c.args.i c.args.first) (put_line defined c.args.line.now c.args.i c.args.first c.put_row.new.breaks of is)

pub returns-clause-same : goal.returns-clause-same
returns-clause-same c =
    let back = c.put_row-2.ensures
    ∙ (ap₂ (λ bs r. set bs c.args.i r) c.put_row.ensures c.row_at-row.ensures ∙ put_back c.args.line.now.breaks c.args.i _ no_break c.requires.place) in
    λ i. with_breaks c.args.line.now (back i)
