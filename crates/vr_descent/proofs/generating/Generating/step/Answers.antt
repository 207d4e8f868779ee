use Rattle.std.proofs.Common.{◌+◌, [], None, refl, subst, sym, arith}
use Rattle.vr_model.specs.moves.Moves.{moves_over}
use Rattle.vr_known.specs.Passing.{Takes}
use Rattle.vr_known.proofs.LookedLemmas.{looked_further, looked_more, looked_none, within_rises}
use Rattle.vr_known.proofs.PassingLemmas.{passes_as, passes_from, passes_in_front, passes_more, passes_none, passes_to_end, takes_in_front, takes_none}
use Rattle.vr_known.proofs.PassingLemmas.{takes_some}
use Rattle.vr_descent.proofs.ListingLemmas.{none_left, taken_in_hand}
use Rattle.vr_descent.proofs.generating.Generating.step.Goals as goal

pub loop-mv-init : goal.loop-mv-init
loop-mv-init g c = record {
  well_formed = c.self.invariant.0;
  of_model = c.self.invariant.1;
  passes = passes_none (g.S.Sieve.covers c.args.sieve.now) _ _ c.type_inv._count.fits;
  looked = looked_none (g.S.Sieve.can_ask c.args.sieve.now) g.S.Sieve.judged g.S.Sieve.looked
      (g.S.Sieve.tries c.args.sieve.now) _ _ _ c.requires.can_ask (omega arith);
}

pub loop-mv-preserved : goal.loop-mv-preserved
loop-mv-preserved g c =
    let now = c.loop-mv.self-inside in
    record {
      well_formed = c.loop-mv.invariant.well_formed;
      of_model = c.loop-mv.invariant.of_model;
      passes = passes_more (g.S.Sieve.covers c.args.sieve.now) _ _ _ _ _ _ c.loop-mv.invariant.passes
          (passes_as (g.S.Sieve.covers c.args.sieve.now) _ _ _ _ _
          (taken_in_hand now.model.now now.routes.now.lists [] _ c.in-Some-split_first.first.now now.behind.now
          c.in-Some-split_first.others.now refl c.in-Some-split_first.ensures.cases.0 c.open_in.ensures)
          (passes_in_front (g.S.Sieve.covers c.args.sieve.now) _ _ (moves_over now.model.now now.behind.now now.routes.now.lists)
          _ _ (passes_to_end (g.S.Sieve.covers c.args.sieve.now) _ _ _ _ c.in_default.ensures.takes)));
      looked = (
          let sieve = c.args.sieve.now in
          let now = c.step.new.passed in
          looked_further (g.S.Sieve.can_ask sieve) g.S.Sieve.judged g.S.Sieve.looked (g.S.Sieve.tries sieve)
          _ _ _ _ _ (within_rises (g.S.Sieve.tries sieve) (now + 0) now (omega arith))
          (looked_more (g.S.Sieve.can_ask sieve) g.S.Sieve.judged g.S.Sieve.looked
          (g.S.Sieve.tries sieve) _ _ _ _ _ _ c.loop-mv.invariant.looked c.in_default.ensures.looked));
    }

pub returns-in-Some-clause-looked : goal.returns-in-Some-clause-looked
returns-in-Some-clause-looked g c =
    looked_more (g.S.Sieve.can_ask c.args.sieve.now) g.S.Sieve.judged g.S.Sieve.looked
    (g.S.Sieve.tries c.args.sieve.now) _ _ _ _ _ _ c.loop-mv.invariant.looked c.in-Some.ensures.looked

pub returns-in-None-clause-looked : goal.returns-in-None-clause-looked
returns-in-None-clause-looked g c =
    looked_more (g.S.Sieve.can_ask c.args.sieve.now) g.S.Sieve.judged g.S.Sieve.looked
    (g.S.Sieve.tries c.args.sieve.now) _ _ _ _ _ _ c.loop-mv.invariant.looked c.in_default.ensures.looked

pub returns-in-Some-clause-takes : goal.returns-in-Some-clause-takes
returns-in-Some-clause-takes g c =
    let now = c.loop-mv.self-inside in
    takes_some (g.S.Sieve.covers c.args.sieve.now) _ _ _ _ _ _ _
    (passes_from (g.S.Sieve.covers c.args.sieve.now) _ _ _ _ _ c.self.view_is c.loop-mv.invariant.passes)
    (takes_in_front (g.S.Sieve.covers c.args.sieve.now) _ _ (moves_over now.model.now now.behind.now now.routes.now.lists) _ _ _ c.in-Some.ensures.takes)

pub returns-in-None-clause-takes : goal.returns-in-None-clause-takes
returns-in-None-clause-takes g c =
    let now = c.loop-mv.self-inside in
    let none = c.in-None.ensures.cases in
    subst (λ l. Takes (g.S.Sieve.covers c.args.sieve.now) c.args.self.now c.args.passed.now None l c.step.new.passed)
    (sym (none_left now.model.now now.routes.now.lists _ now.behind.now c.in_default.ensures.takes.first.1 none))
    (takes_none (g.S.Sieve.covers c.args.sieve.now) _ _ _ (passes_from (g.S.Sieve.covers c.args.sieve.now) _ _ _ _ _ c.self.view_is
    (passes_more (g.S.Sieve.covers c.args.sieve.now) _ _ _ _ _ _ c.loop-mv.invariant.passes
    (passes_as (g.S.Sieve.covers c.args.sieve.now) _ _ _ _ _ (none_left now.model.now now.routes.now.lists [] now.behind.now refl none)
    (passes_in_front (g.S.Sieve.covers c.args.sieve.now) _ _ (moves_over now.model.now now.behind.now now.routes.now.lists)
    _ _ (passes_to_end (g.S.Sieve.covers c.args.sieve.now) _ _ _ _ c.in_default.ensures.takes))))))
