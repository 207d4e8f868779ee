use Rattle.std.proofs.Common.{◌≡◌, ◌+◌, ◌∙◌, suc, length, take, drop, ap, ap₂, subst, sym, arith}
use Rattle.std.proofs.lemmas.List.{length-take-le}
use Rattle.std.proofs.lemmas.Result.{on_ok_weaker}
use Rattle.vr_reach.specs.KnownRows.{AreLastRows, AreReachingRows}
use Rattle.vr_reach.proofs.AlongLemmas.{window_long, window_of}
use Rattle.vr_reach.proofs.along.write_behind.Goals.{After-write_back-arg-1}
use Rattle.vr_reach.proofs.along.write_behind.Goals as goal

-- the rows that are written
rows_are : (c : After-write_back-arg-1)
    → c.split_at_mut-rows.result.0.now ≡ take (suc (suc (length c.args.stops.now.of.list.now))) (drop c.args.first c.args.kept.now)
rows_are c =
    let two : c.len-n.result + 2 ≡ suc (suc (length c.args.stops.now.of.list.now)) = omega (arith, c.len-n.ensures.value) in
    c.split_at_mut-rows.ensures.front ∙ ap₂ take two c.split_at_mut-behind.ensures.back

pub write_back-requires-clause-known : goal.write_back-requires-clause-known
write_back-requires-clause-known c =
    let of = c.args.stops.now.of in
    subst (AreLastRows of.closed.model.now of.d of.v of.list.now c.args.known) (sym (rows_are c)) c.requires.known

pub write_back-requires-clause-long : goal.write_back-requires-clause-long
write_back-requires-clause-long c = ap length (rows_are c)
    ∙ window_long c.args.kept.now c.args.first (suc (suc (length c.args.stops.now.of.list.now))) c.requires.there

pub returns : goal.returns
returns c =
    let of = c.args.stops.now.of in
    let list = of.list.now in
    let there = c.requires.there in
    let before = ap length c.split_at_mut-behind.ensures.front ∙ length-take-le c.args.first c.args.kept.now (omega (arith, there)) in
    record {
      rows = on_ok_weaker _
          (λ rows. subst (AreReachingRows of.closed.model.now of.d of.v list) (sym (window_of c.split_at_mut-behind.result.0.now c.write_back.new.rows
          c.split_at_mut-rows.result.1.now c.args.first (suc (suc (length list))) before rows.row_of_each_stop)) rows) c.write_back.ensures;
    }
