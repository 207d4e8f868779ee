use Rattle.std.proofs.Common.{◌∙◌, ◌+◌, ◌<◌, ap, ap₂, map, sym, subst, arith, length}
use Rattle.vr_model.specs.tables.Numbers.{from_to}
use Rattle.vr_model.specs.routes.Routes.{route}
use Rattle.vr_lns.specs.Cuts.{accepted_by}
use Rattle.vr_lns.specs.Rounds.{round_from}
use Rattle.vr_lns.specs.Standing.{is_taken_over, lists_after, lists_after_round, round_end, HoldValid}
use Rattle.vr_lns.proofs.RoundLemmas.{cut_at, next_cut, not_taken, passed_here, short_here, taken_here}
use Rattle.vr_lns.proofs.rounds.cut_list.Goals as goal

pub returns-then-place-rest : goal.returns-then-place-rest
returns-then-place-rest g c =
    let k = c.args.cutting.now in
    let lists = c.args.routes.now.lists in
    let accepted = accepted_by k.model k.most lists in
    let opens = next_cut (round_from c.loop-a.place accepted c.args.rest) c.args.v (length (route lists c.args.v))
    c.loop-a.a _ c.loop-a.invariant.left (omega (arith, c.loop-a-test.true, c.len-a-end.ensures.value)) in
    let rest = map (cut_at c.args.v) (from_to (c.loop-a.a + 1) (length (route lists c.args.v))) in
    let short = sym (short_here accepted c.args.rest c.loop-a.place (cut_at c.args.v c.loop-a.a) rest c.if-place-rest.true) ∙ opens in
    record {
      ends = ap round_end short;
      lists = c.loop-a.invariant.lists ∙ ap (lists_after_round lists) short;
      holds = c.loop-a.invariant.holds;
      cutter = c.loop-a.invariant.cutter;
      knows = c.loop-a.invariant.knows;
      made = omega (arith, c.loop-a.invariant.made, c.if-place-rest.true);
      made_at_most = tt;
    }

pub returns-then-branch : goal.returns-then-branch
returns-then-branch g c =
    let k = c.args.cutting.now in
    let lists = c.args.routes.now.lists in
    let accepted = accepted_by k.model k.most lists in
    let opens = next_cut (round_from c.loop-a.place accepted c.args.rest) c.args.v (length (route lists c.args.v))
    c.loop-a.a _ c.loop-a.invariant.left (omega (arith, c.loop-a-test.true, c.len-a-end.ensures.value)) in
    let rest = map (cut_at c.args.v) (from_to (c.loop-a.a + 1) (length (route lists c.args.v))) in
    let same = ap₂ (λ k ls. accepted_by k.model k.most ls (cut_at c.args.v c.loop-a.a)) c.loop-a.invariant.cutter c.loop-a.invariant.lists in
    let tries : c.loop-a.place < c.args.rest = omega (arith, c.loop-a.invariant.within, c.if-place-rest.false) in
    let taken = taken_here accepted c.args.rest c.loop-a.place (cut_at c.args.v c.loop-a.a) rest _ opens
    tries (sym (ap is_taken_over same) ∙ (sym c.in_ok-try_cut.ensures.taken ∙ c.if-branch.true)) in
    record {
      ends = ap round_end (sym taken.2);
      lists = c.in_ok-try_cut.ensures.lists ∙ ap (lists_after c.loop-a.routes.lists) (same ∙ taken.1) ∙ ap (lists_after_round lists) (sym taken.2);
      holds = subst (λ k. HoldValid k.model c.try_cut.new.routes c.try_cut.new.total) c.loop-a.invariant.cutter c.in_ok-try_cut.ensures.holds;
      cutter = c.in_ok-try_cut.ensures.cutter ∙ c.loop-a.invariant.cutter;
      knows = subst (λ k. g.R.Rebuild.knows c.try_cut.new.rebuild k.model) c.loop-a.invariant.cutter c.in_ok-try_cut.ensures.knows;
      made = omega (arith, c.in_ok-try_cut.ensures.made, c.loop-a.invariant.made);
      made_at_most = tt;
    }

pub loop-a-preserved : goal.loop-a-preserved
loop-a-preserved g c =
    let k = c.args.cutting.now in
    let accepted = accepted_by k.model k.most c.args.routes.now.lists in
    let list = route c.args.routes.now.lists c.args.v in
    let opens = next_cut (round_from c.loop-a.place accepted c.args.rest) c.args.v (length list)
    c.loop-a.a _ c.loop-a.invariant.left (omega (arith, c.loop-a-test.true, c.len-a-end.ensures.value)) in
    let rest = map (cut_at c.args.v) (from_to (c.loop-a.a + 1) (length list)) in
    let same = ap₂ (λ k ls. accepted_by k.model k.most ls (cut_at c.args.v c.loop-a.a)) c.loop-a.invariant.cutter c.loop-a.invariant.lists in
    let none = not_taken (accepted (cut_at c.args.v c.loop-a.a)) (sym (ap is_taken_over same) ∙ (sym c.in_ok-try_cut.ensures.taken ∙ c.if-branch.false)) in
    record {
      cutter = c.in_ok-try_cut.ensures.cutter ∙ c.loop-a.invariant.cutter;
      lists = c.in_ok-try_cut.ensures.lists ∙ ap (lists_after c.loop-a.routes.lists) (same ∙ none) ∙ c.loop-a.invariant.lists;
      holds = subst (λ k. HoldValid k.model c.try_cut.new.routes c.try_cut.new.total) c.loop-a.invariant.cutter c.in_ok-try_cut.ensures.holds;
      within = omega (arith, c.loop-a.invariant.within, c.if-place-rest.false);
      knows = subst (λ k. g.R.Rebuild.knows c.try_cut.new.rebuild k.model) c.loop-a.invariant.cutter c.in_ok-try_cut.ensures.knows;
      made = omega (arith, c.in_ok-try_cut.ensures.made, c.loop-a.invariant.made);
      left = sym (passed_here accepted c.args.rest c.loop-a.place (cut_at c.args.v c.loop-a.a) rest none) ∙ opens;
    }
