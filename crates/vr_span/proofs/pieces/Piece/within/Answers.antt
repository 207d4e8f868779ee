use Rattle.std.proofs.Common.{◌≡◌, ◌∙◌, sym, subst, ap, arith}
use Rattle.std.specs.Int.{int_max, int_min}
use Rattle.std.proofs.lemmas.Int.{ints, clamps}
use Rattle.vr_span.specs.Pieces.{IsNearNumber, start_of, within_run}
use Rattle.vr_span.proofs.PieceLemmas.{same_piece, start_range}
use Rattle.vr_span.proofs.ReadLemmas.{as_read, near_is_wide, near_max, near_min}
use Rattle.vr_span.proofs.pieces.Piece.within.Goals as goal

pub start_of-requires-clause-x : goal.start_of-requires-clause-x
start_of-requires-clause-x c =
    let lo : c.max-lo.result ≡ int_max c.args.self.lo c.args.run.lo =
    omega (arith, ints, clamps, c.max-lo.ensures.value, c.requires.near.lo, c.requires.run_lo) in
    let near = near_max c.args.self.lo c.args.run.lo c.requires.near.lo c.requires.run_lo in
    subst IsNearNumber (sym (as_read c.max-lo.result (int_max c.args.self.lo c.args.run.lo) lo (near_is_wide _ near))) near

pub start_of-requires-2-clause-x : goal.start_of-requires-2-clause-x
start_of-requires-2-clause-x c =
    let hi : c.min-hi.result ≡ int_min c.args.self.hi c.args.run.hi =
    omega (arith, ints, clamps, c.min-hi.ensures.value, c.requires.near.hi, c.requires.run_hi) in
    let near = near_min c.args.self.hi c.args.run.hi c.requires.near.hi c.requires.run_hi in
    subst IsNearNumber (sym (as_read c.min-hi.result (int_min c.args.self.hi c.args.run.hi) hi (near_is_wide _ near))) near

pub returns : goal.returns
returns c =
    let self = c.args.self in
    let least = int_max self.lo c.args.run.lo in
    let greatest = int_min self.hi c.args.run.hi in
    let lo : c.max-lo.result ≡ least = omega (arith, ints, clamps, c.max-lo.ensures.value, c.requires.near.lo, c.requires.run_lo) in
    let hi : c.min-hi.result ≡ greatest = omega (arith, ints, clamps, c.min-hi.ensures.value, c.requires.near.hi, c.requires.run_hi) in
    let lo_near = near_max self.lo c.args.run.lo c.requires.near.lo c.requires.run_lo in
    let hi_near = near_min self.hi c.args.run.hi c.requires.near.hi c.requires.run_hi in
    let lo_same = as_read c.max-lo.result least lo (near_is_wide least lo_near) in
    let hi_same = as_read c.min-hi.result greatest hi (near_is_wide greatest hi_near) in
    let first = c.start_of.ensures ∙ ap (start_of self) lo_same in
    let last = c.start_of-2.ensures ∙ ap (start_of self) hi_same in
    same_piece _ (within_run c.args.run self) lo_same hi_same
    (as_read c.start_of.result (start_of self least) first (start_range self least c.requires.near lo_near))
    (as_read c.start_of-2.result (start_of self greatest) last (start_range self greatest c.requires.near hi_near))
