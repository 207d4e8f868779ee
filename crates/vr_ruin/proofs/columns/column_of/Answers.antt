use Rattle.std.proofs.Common.{◌≡◌, ◌∙◌, ℕ, ℤ, ◌+◌, ◌*◌, ap, subst, sym, of_z, to_z, w64, arith, length}
use Rattle.std.proofs.lemmas.Int.{ints}
use Rattle.std.proofs.lemmas.List.{length-append}
use Rattle.vr_model.specs.tables.Numbers.{number_at}
use Rattle.vr_model.specs.tables.Tables.{entry, no_matrix}
use Rattle.vr_model.proofs.tables.Bounds.{entry_in_range}
use Rattle.vr_reach.proofs.Tables.{each_push}
use Rattle.vr_ruin.specs.Columns.{IsEntry}
use Rattle.vr_ruin.proofs.columns.column_of.Goals as goal

pub entry-requires-clause-square : goal.entry-requires-clause-square
entry-requires-clause-square c =
    let model = c.args.closed.model.now in
    ap (λ matrix. length matrix.entries) (sym (c.get-matrix.ensures.value no_matrix))
    ∙ (c.args.closed.well_formed.each_matrix c.args.m no_matrix c.requires.matrix).square

pub loop-i-preserved : goal.loop-i-preserved
loop-i-preserved c =
    let model = c.args.closed.model.now in
    let m = c.loop-i.invariant in
    let P = λ (i : ℕ) (x : ℤ). IsEntry model c.args.m i c.args.x x in
    let r = entry_in_range model c.args.closed.well_formed c.args.m c.loop-i.i c.args.x c.requires.matrix c.loop-i-test.true c.requires.node in
    let value : c.entry.result ≡ entry model c.args.m c.loop-i.i c.args.x = c.entry.ensures
    ∙ ap (λ matrix. number_at matrix.entries (c.loop-i.i * model.nodes + c.args.x)) (sym (c.get-matrix.ensures.value no_matrix)) in
    let new = to_z w64 (of_z w64 c.entry.result) in
    let read : new ≡ entry model c.args.m c.loop-i.i c.args.x = omega (arith, ints, value, r.at_least, r.at_most) in
    let here : P c.loop-i.i new = record { is = read; low = omega (arith, ints, read, r.at_least); high = omega (arith, ints, read, r.at_most) } in
    rw c.in_ok-push.ensures.ok (record {
      long = length-append c.loop-i.column _ ∙ ap (λ n. n + 1) m.long;
      each = λ i other low. each_push P c.loop-i.column new m.each (subst (λ n. P n new) (sym m.long) here) i other low;
    })
