use Rattle.std.proofs.Common.{◌≡◌, ◌∙◌, ◌<◌, ◌++◌, length, get_or, pos, to_z, of_z, w64, ap, sym, subst, inl, inr, arith}
use Rattle.std.proofs.lemmas.Int.{ints}
use Rattle.vr_spans.proofs.RunsLemmas.{some_from_test, none_from_test}
use Rattle.vr_model.specs.tables.Numbers.{horizon}
use Rattle.vr_model.specs.tables.WellFormed.{IsIn}
use Rattle.vr_span.specs.declared.pieces.Piece.{Piece}
use Rattle.vr_span.specs.Pieces.{IsNear, piece_if_any, moved_piece, within_run}
use Rattle.vr_span.proofs.PassLemmas.{IsPassing, first_moved, near_first, near_moved, no_piece, pass_begins, pass_ends, run_range, take_left, take_right}
use Rattle.vr_span.proofs.crossing.cross.Goals.{After-over-reached, After-run-bound, In_ok-put}
use Rattle.vr_span.proofs.crossing.cross.Goals as goal

pub pass-init : goal.pass-init
pass-init c =
    subst (λ out. IsPassing c.args.hop c.args.from.now c.args.next.now out c.args.from.now 0) (sym c.truncate.ensures)
    (pass_begins c.args.hop c.requires.hop c.args.from.now c.args.next.now c.requires.from c.len-runs.ensures.normal c.requires.next)

pub over-reached-requires-clause-near : goal.over-reached-requires-clause-near
over-reached-requires-clause-near c = near_first c.pass.left.now c.pass.invariant.left_are (some_from_test _ _ c.pass-test.true c.is_empty.ensures)

-- a piece is left
is_left : (c : After-over-reached) → 0 < length c.pass.left.now
is_left c = some_from_test _ _ c.pass-test.true c.is_empty.ensures

-- where the first of them leads to
reached : (c : After-over-reached) → c.over-reached.result ≡ first_moved c.args.hop c.pass.left.now
reached c =
    let as_it_is : to_z w64 (of_z w64 c.until.result) ≡ c.until.result = omega (arith, ints, c.until.ensures.near) in
    c.over-reached.ensures ∙ ap (λ u. moved_piece c.args.hop u (get_or c.pass.left.now 0 no_piece)) (as_it_is ∙ c.until.ensures.value)

near : (c : After-over-reached) → IsNear (first_moved c.args.hop c.pass.left.now)
near c = near_moved c.args.hop c.requires.hop c.args.from.now c.args.next.now c.pass.out c.pass.left.now c.pass.k c.pass.invariant (is_left c)

-- the run that is looked at
run : (c : After-run-bound) → IsIn (pos 0) horizon c.run-bound.result.lo × IsIn (pos 0) horizon c.run-bound.result.hi
run c = run_range c.args.hop c.requires.hop c.args.from.now c.args.next.now c.pass.out c.pass.left.now c.pass.k
    c.pass.invariant (is_left (goal.at.After-run-bound c).After-over-reached) c.run-bound.result c.run-bound.ensures

-- what is put behind the others
new : (c : In_ok-put) → c.put.new.out ≡ c.pass.out ++ piece_if_any (within_run c.run-bound.result (first_moved c.args.hop c.pass.left.now))
new c = c.in_ok-put.ensures
    ∙ ap (λ p. c.pass.out ++ piece_if_any p) (c.within.ensures ∙ ap (within_run c.run-bound.result) (reached (goal.at.In_ok-put c).After-over-reached))

pub within-requires-clause-near : goal.within-requires-clause-near
within-requires-clause-near c = let at = (goal.at.within-requires-clause-near c).After-over-reached in subst IsNear (sym (reached at)) (near at)

pub within-requires-clause-run_lo : goal.within-requires-clause-run_lo
within-requires-clause-run_lo c =
    let bound = (run (goal.at.within-requires-clause-run_lo c).After-run-bound).0 in
    record { at_least = omega (arith, ints, bound); at_most = omega (arith, ints, bound) }

pub within-requires-clause-run_hi : goal.within-requires-clause-run_hi
within-requires-clause-run_hi c =
    let bound = (run (goal.at.within-requires-clause-run_hi c).After-run-bound).1 in
    record { at_least = omega (arith, ints, bound); at_most = omega (arith, ints, bound) }

pub pass-preserved-then-reached-bound : goal.pass-preserved-then-reached-bound
pass-preserved-then-reached-bound c =
    let here = goal.at.pass-preserved-then-reached-bound c in
    let hi = ap (λ (p : Piece). p.hi) (reached here.After-over-reached) in
    let moved_near = (near here.After-over-reached).hi in
    let bound = (run here.After-run-bound).1 in
    let test = c.if-reached-bound.true in
    take_left c.args.hop c.requires.hop c.args.from.now c.args.next.now c.pass.out c.pass.left.now
    c.pass.k c.pass.invariant (is_left here.After-over-reached) c.run-bound.result c.run-bound.ensures
    c.put.new.out (new here.In_ok-put) (omega (arith, ints, test, hi, moved_near, bound))

pub pass-preserved : goal.pass-preserved
pass-preserved c =
    let here = goal.at.pass-preserved c in
    let hi = ap (λ (p : Piece). p.hi) (reached here.After-over-reached) in
    let moved_near = (near here.After-over-reached).hi in
    let bound = (run here.After-run-bound).1 in
    let test = c.if-reached-bound.false in
    take_right c.args.hop c.requires.hop c.args.from.now c.args.next.now c.pass.out c.pass.left.now
    c.pass.k c.pass.invariant (is_left here.After-over-reached) c.run-bound.result c.run-bound.ensures
    c.put.new.out (new here.In_ok-put) (omega (arith, ints, test, hi, moved_near, bound))

pub returns-else-k-runs-clause-exact : goal.returns-else-k-runs-clause-exact
returns-else-k-runs-clause-exact c =
    let done = c.if-k-runs.false in
    pass_ends c.args.hop c.requires.hop c.args.from.now c.args.next.now c.pass.out c.pass.left.now
    c.pass.k c.requires.from c.pass.invariant (inr (omega (arith, done, c.len-runs.ensures.value)))

pub returns-after-pass-clause-exact : goal.returns-after-pass-clause-exact
returns-after-pass-clause-exact c =
    pass_ends c.args.hop c.requires.hop c.args.from.now c.args.next.now c.pass.out c.pass.left.now c.pass.k
    c.requires.from c.pass.invariant (inl (none_from_test _ _ c.pass-test.false c.is_empty.ensures))
