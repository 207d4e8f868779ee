use Rattle.std.proofs.Common.{◌≡◌, ◌∙◌, ℕ, List, ◌<◌, arith, length, sym}
use Rattle.std.specs.Prelude.{slice_index_or}
use Rattle.std.proofs.lemmas.List.{get_or_default, length-set, same_lists}
use Rattle.vr_model.specs.moves.Moves.{with_route}
use Rattle.vr_rules.proofs.FrontLemmas.{moved_more}
use Rattle.vr_ruin.proofs.trial.write_lists.Goals as goal

pub loop-w-preserved : goal.loop-w-preserved
loop-w-preserved c =
    let target = with_route c.args.routes.now.lists c.args.v c.args.list.now in
    let w : ℕ = c.loop-w.w in
    let m = c.loop-w.invariant in
    let many = c.requires.many in
    let told = c.vehicles-w-end.ensures.value in
    let within : w < length c.loop-w.lists = omega (arith, m.long, c.loop-w-test.true, many, told) in
    let new = c.write_list.new.out in
    let long = length-set c.args.routes.now.lists c.args.v c.args.list.now in
    let Done = λ (w : ℕ) (list : List ℕ). (other : List ℕ) → list ≡ slice_index_or target w other in
    record {
      long = length-set c.loop-w.lists w new ∙ m.long;
      done = λ k other low lt. moved_more Done c.loop-w.lists w new within
          (λ j d j_low j_lt another. m.done j d j_low j_lt ∙ get_or_default target j d another (omega (arith, long, m.long, many, j_lt)))
          (λ another. c.in_ok-write_list.ensures ∙ c.list_beside.ensures ∙ get_or_default target w _ another (omega (arith, long, m.long, many, within))) k
          other low lt other;
    }

pub returns-clause-lists : goal.returns-clause-lists
returns-clause-lists c =
    let target = with_route c.args.routes.now.lists c.args.v c.args.list.now in
    let m = c.loop-w.invariant in
    let many = c.requires.many in
    let told = c.vehicles-w-end.ensures.value in
    let long = length-set c.args.routes.now.lists c.args.v c.args.list.now in
    same_lists c.loop-w.lists target (m.long ∙ many ∙ sym long) (λ k d low. m.done k d (omega (arith, low, m.long, many, told, c.loop-w-test.false)) low)
