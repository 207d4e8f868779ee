use Rattle.std.proofs.Common.{◌≡◌, ◌∙◌, ◌+◌, sym, ap, subst}
use Rattle.vr_model.specs.routes.Routes.{is_active}
use Rattle.vr_model.specs.tables.Tables.{pair_at}
use Rattle.vr_routes.specs.Seats.{IsSeat}
use Rattle.vr_known.proofs.MemoryLemmas.{SettledSoFar, settles_none, settles_one}
use Rattle.vr_known.proofs.stamps.Stamps.settle.Goals as goal
use Rattle.vr_known.proofs.stamps.Stamps.settle.Goals.{in-Some, in-None}

pub loop-p-preserved : goal.loop-p-preserved
loop-p-preserved c =
    let model = c.args.closed.model.now in
    let lists = c.args.routes.now.lists in
    let begin = c.args.self.now in
    let p = c.loop-p.p in
    let same : c.get-pair.result.now ≡ pair_at model p = sym (c.get-pair.ensures.value (record { pickup = 0; delivery = 0 })) in
    elim c.match-vehicle_of.branch [
      | in-Some w ↦ record {
        so = subst (λ s. SettledSoFar model lists begin s (p + 1)) (sym w.self-is)
            (settles_one model lists begin c.loop-p.self p c.loop-p.invariant.so w.settle_row.new.self
            w.settle_row-in-Some.new.self w.in-Some.v w.in-Some.ensures.0 c.know_once.ensures
            (subst (λ q. IsSeat lists q.pickup w.in-Some.v w.in-Some.ensures.0) same w.in-Some.ensures.1)
            (record {
              fewer = w.settle_row.ensures.fewer;
              earlier = w.settle_row.ensures.earlier;
              keeps = w.settle_row.ensures.keeps;
              settled = w.settle_row.ensures.settled;
            })
            (record {
              fewer = w.settle_row-in-Some.ensures.fewer;
              earlier = w.settle_row-in-Some.ensures.earlier;
              keeps = w.settle_row-in-Some.ensures.keeps;
              settled = w.settle_row-in-Some.ensures.settled;
            }));
      }
      | in-None w ↦ record {
        so = subst (λ s. SettledSoFar model lists begin s (p + 1)) (sym w.self-is)
            (settles_none model lists begin c.loop-p.self p c.loop-p.invariant.so (ap (λ q. is_active lists q.pickup) (sym same) ∙ w.in-None.ensures));
      }
    ]
