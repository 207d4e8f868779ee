use Rattle.std.proofs.Common.{◌≡◌, ◌∙◌, length, ap, sym, subst, arith}
use Rattle.vr_model.specs.declared.records.Model.{Model}
use Rattle.vr_routes.specs.Pieces.{joined, part_at}
use Rattle.vr_costfilter.specs.GlobalCosts.{AreLike, AreRowsAfter, IsRow, KeptSpans}
use Rattle.vr_costfilter.proofs.GlobalLemmas.{rows-after-push, stands-like}
use Rattle.vr_costfilter.proofs.KnownLemmas.{still-valid}
use Rattle.vr_costfilter.proofs.global_span.GlobalSpan.write_next.Goals as goal

pub row_after-requires-clause-change : goal.row_after-requires-clause-change
row_after-requires-clause-change c =
    let h = c.requires.change in
    still-valid h c.loop-k.invariant.like.model (stands-like c.args.self.now c.loop-k.self c.args.routes.now h.stands c.loop-k.invariant.like)

pub loop-k-preserved : goal.loop-k-preserved
loop-k-preserved c =
    let i = c.loop-k.invariant in
    let e = c.in_ok-row.ensures in
    let part = part_at c.args.change.now c.loop-k.k in
    let same = c.self-in-loop-k.view_is ∙ e.stays in
    let rows = subst (AreRowsAfter c.args.self.now.model c.args.routes.now.lists c.args.change.now c.loop-k.k)
    (sym (ap (λ (s : KeptSpans). s.next) same)) i.next in
    let row = subst (λ (m : Model). IsRow m part.vehicle (joined c.args.routes.now.lists part.pieces) c.in_ok-row.row) i.like.model e.kept in
    record {
      like = record {
        model = ap (λ s. s.model) same ∙ i.like.model;
        orders = ap (λ s. s.orders) same ∙ i.like.orders;
        room = ap (λ s. length s.next_orders) same ∙ i.like.room;
        cost = ap (λ s. s.cost) same ∙ i.like.cost;
        cumuls = ap (λ s. s.cumuls) same ∙ i.like.cumuls;
      };
      unprepared = ap (λ s. s.is_prepared) same ∙ i.unprepared;
      next = rows-after-push c.args.self.now.model c.args.routes.now.lists c.args.change.now c.loop-k.k
          c.self-in-loop-k.inside.next.items c.push.new.self.items c.in_ok-row.row rows row c.push.ensures.items;
    }

pub returns-clause-next : goal.returns-clause-next
returns-clause-next c =
    let i = c.loop-k.invariant in
    let parts = c.args.change.now in
    let all : c.loop-k.k ≡ length parts = omega (arith, c.parts-k-end.ensures.value, c.loop-k-test.false, c.loop-k.auto.k-end) in
    subst (λ (m : Model). AreRowsAfter m c.args.routes.now.lists parts (length parts) c.loop-k.self.next) (sym i.like.model)
    (subst (λ n. AreRowsAfter c.args.self.now.model c.args.routes.now.lists parts n c.loop-k.self.next) all i.next)

pub returns-in_err-row-clause-like : goal.returns-in_err-row-clause-like
returns-in_err-row-clause-like c = subst (AreLike c.args.self.now) (sym c.row_after.ensures.stays) c.loop-k.invariant.like
