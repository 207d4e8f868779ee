use Rattle.std.proofs.Common.{◌≡◌, ◌∙◌, ◌+◌, ◌∷◌, [], ℕ, ap, subst, sym, length}
use Rattle.std.proofs.lemmas.List.{length-append}
use Rattle.vr_model.specs.routes.Routes.{route}
use Rattle.vr_reach.specs.Rows.{BothWays}
use Rattle.vr_reach.specs.KnownRows.{AreRowsIfUsed}
use Rattle.vr_reach.specs.Lists.{IsTour}
use Rattle.vr_reach.proofs.Tables.{each_push}
use Rattle.vr_first_insert.specs.KeptRows.{AreRowsOfEach}
use Rattle.vr_first_insert.proofs.RowLemmas.{list_at}
use Rattle.vr_first_insert.proofs.list_rows.ListRows.build.Goals as goal

pub write_rows-requires-clause-tour : goal.write_rows-requires-clause-tour
write_rows-requires-clause-tour c =
    let lists = c.args.lists.now in
    let v : ℕ = c.loop-v.v in
    let list : c.as_slice-list.result.now ≡ route lists v = list_at lists v c.as_slice-list.result.now
    c.index-lists-v.result c.as_slice-list.ensures c.index-lists-v.is c.loop-v-test.true in
    subst (IsTour c.args.lookups.now.closed.model.now) (sym list) (c.requires.tours v c.loop-v-test.true)

pub loop-v-preserved : goal.loop-v-preserved
loop-v-preserved c =
    let model = c.args.lookups.now.closed.model.now in
    let lists = c.args.lists.now in
    let v : ℕ = c.loop-v.v in
    let m = c.loop-v.invariant in
    let before = c.loop-v.known.items in
    let new = c.write_rows.new.rows in
    let list : c.as_slice-list.result.now ≡ route lists v = list_at lists v c.as_slice-list.result.now
    c.index-lists-v.result c.as_slice-list.ensures c.index-lists-v.is c.loop-v-test.true in
    let P = λ (v : ℕ) (rows : BothWays). AreRowsIfUsed model c.args.d v (route lists v) rows in
    record {
      long = ap length c.in_ok-push.ensures.items ∙ length-append before (new ∷ []) ∙ ap (λ n. n + 1) m.long;
      each = subst (AreRowsOfEach model c.args.d lists) (sym c.in_ok-push.ensures.items)
          (each_push P before new m.each
          (subst (λ n. P n new) (sym m.long) (subst (λ l. AreRowsIfUsed model c.args.d v l new) list c.in_ok-write_rows.ensures)));
    }
