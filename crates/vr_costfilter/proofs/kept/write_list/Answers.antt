use Rattle.std.proofs.Common.{◌∙◌, ℕ, List, sym, subst, arith}
use Rattle.std.proofs.lemmas.Bool.{false≢true}
use Rattle.vr_costfilter.proofs.KeptCumulLemmas.{all-visits, stages-none}
use Rattle.vr_costfilter.specs.FewVisits.{AreFewVisits}
use Rattle.vr_costfilter.proofs.kept.write_list.Goals as goal

pub returns-in-None-clause-kept : goal.returns-in-None-clause-kept
returns-in-None-clause-kept c =
    let m = c.args.tour.now.closed.model.now in
    record {
      earliest = λ rule runs are. stages-none m c.args.d c.args.tour.now.v runs c.args.tour.now.list.now _ (omega (arith, c.forget.ensures.none));
      tight = λ rule runs are. stages-none m c.args.d c.args.tour.now.v _ c.args.tour.now.list.now _ (omega (arith, c.forget.ensures.none));
      between = c.forget.ensures.between;
      ends = c.forget.ensures.ends m c.args.d c.args.tour.now.v c.args.tour.now.list.now;
      whole = λ tour one feasible room. absurd (false≢true (c.in-None.ensures.known ∙ one));
    }

pub invariant_of-on : goal.invariant_of-on
invariant_of-on c =
    let tour = c.args.tour.now in
    let m = tour.closed.model.now in
    let list : List ℕ = tour.list.now in
    record {
      sound =
          subst (λ m. AreFewVisits m list) (sym c.in-Some.ensures.model) (record { few = tour.sound.few; visits = all-visits m list tour.sound.visits });
    }
