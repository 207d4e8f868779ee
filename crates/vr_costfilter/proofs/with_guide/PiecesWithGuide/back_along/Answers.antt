use Rattle.std.proofs.Common.{◌≡◌, ◌+◌, ◌-◌, ◌<◌, ◌++◌, ℕ, List, false, drop, length, length-append, take, ap, sym, subst, arith}
use Rattle.std.specs.Prelude.{slice_index_or}
use Rattle.std.proofs.lemmas.List.{drop_all}
use Rattle.vr_routes.specs.declared.pieces.Piece.{Piece}
use Rattle.vr_routes.specs.declared.pieces.Piece.TheVariants.{Chain}
use Rattle.vr_routes.specs.Pieces.{joined, nodes_of}
use Rattle.vr_routes.proofs.JoinedPieces.{joined_rest}
use Rattle.vr_costfilter.specs.Floors.{WentBack}
use Rattle.vr_costfilter.specs.GuideRuns.{runs_of}
use Rattle.vr_costfilter.specs.declared.with_guide.PiecesWithGuide.{PiecesWithGuide}
use Rattle.vr_costfilter.proofs.FloorLemmas.{back-many, back-more, back-none, drop-one}
use Rattle.vr_costfilter.proofs.FewVisitsLemmas.{piece-of}
use Rattle.vr_costfilter.proofs.FirstLemmas.{begin-none, begin-stuck, went-begin}
use Rattle.vr_costfilter.proofs.with_guide.PiecesWithGuide.back_along.Goals as goal

abbrev first_piece : Piece
first_piece = Chain 0 0 0 false

-- the nodes of the last k pieces, and those of the piece before them
abbrev last-of : PiecesWithGuide → ℕ → List ℕ
last-of on k = joined on.routes.now.lists (drop (length on.pieces.now - k) on.pieces.now)

abbrev one-of : PiecesWithGuide → ℕ → List ℕ
one-of on k = nodes_of on.routes.now.lists (slice_index_or on.pieces.now (length on.pieces.now - 1 - k) first_piece)

one-more : (on : PiecesWithGuide) (k : ℕ) → k < length on.pieces.now → last-of on (k + 1) ≡ one-of on k ++ last-of on k
one-more on k low = ap (joined on.routes.now.lists) (drop-one on.pieces.now (length on.pieces.now) k first_piece (omega arith) low)

pub loop-k-init : goal.loop-k-init
loop-k-init c =
    let g = c.args.self.now.guide.now in
    let lists : List (List ℕ) = c.args.self.now.routes.now.lists in
    record {
      back = subst
          (λ l. WentBack g.model.now g.d g.v (runs_of g) (joined lists l) c.args.next c.args.trail.now.steps.items c.args.trail.now.steps.items c.args.next)
          (sym (drop_all (length c.args.self.now.pieces.now - 0) c.args.self.now.pieces.now (omega arith)))
          (back-none g.model.now g.d g.v (runs_of g) c.args.next c.args.trail.now.steps.items);
      range = c.requires.step;
    }

pub invariant_of-one : goal.invariant_of-one
invariant_of-one c =
    let lists : List (List ℕ) = c.args.self.now.routes.now.lists in
    let pieces : List Piece = c.args.self.now.pieces.now in
    let k : ℕ = length pieces - 1 - c.loop-k.k in
    let h = c.args.self.now.sound in
    record { sound = piece-of c.args.self.now.guide.now.model.now lists pieces h k first_piece (omega (arith, c.loop-k-test.true)) }

pub back_along-requires : goal.back_along-requires
back_along-requires c =
    let g = c.args.self.now.guide.now in
    let on = c.args.self.now in
    let k = c.loop-k.k in
    let place = length on.pieces.now - (k + 1) in
    let many = back-many g.model.now g.d g.v (runs_of g) (last-of on k) c.args.next c.loop-k.first
    c.args.trail.now.steps.items c.loop-k.trail.steps.items c.loop-k.invariant.back in
    let all = ap length (joined_rest on.routes.now.lists on.pieces.now place) in
    let two = length-append (joined on.routes.now.lists (take place on.pieces.now)) (last-of on (k + 1)) in
    let one = ap length (one-more on k c.loop-k-test.true) in
    let parts = length-append (one-of on k) (last-of on k) in
    record { step = c.loop-k.invariant.range; room = omega (arith, c.requires.room, many, all, two, one, parts) }

pub loop-k-preserved : goal.loop-k-preserved
loop-k-preserved c =
    let g = c.args.self.now.guide.now in
    let k = c.loop-k.k in
    let e = c.in-Some.ensures in
    record {
      back = back-more g.model.now g.d g.v (runs_of g) (one-of c.args.self.now k) (last-of c.args.self.now k)
          (last-of c.args.self.now (k + 1)) c.args.next c.loop-k.first c.in-Some.step
          c.args.trail.now.steps.items c.loop-k.trail.steps.items c.back_along.new.trail.steps.items
          (one-more c.args.self.now k c.loop-k-test.true) c.loop-k.invariant.back e.back;
      range = e.range;
    }

pub returns : goal.returns
returns c =
    let g = c.args.self.now.guide.now in
    let lists : List (List ℕ) = c.args.self.now.routes.now.lists in
    let pieces : List Piece = c.args.self.now.pieces.now in
    let all : length pieces - c.loop-k.k ≡ 0 = omega (arith, c.loop-k-test.false) in
    let back = subst (λ i. WentBack g.model.now g.d g.v (runs_of g) (joined lists (drop i pieces)) c.args.next
    c.args.trail.now.steps.items c.loop-k.trail.steps.items c.loop-k.first) all c.loop-k.invariant.back in
    record {
      value = sym (went-begin g.model.now g.d g.v (runs_of g) (joined lists pieces) c.args.next
          c.loop-k.first c.args.trail.now.steps.items c.loop-k.trail.steps.items back);
      back = back;
      range = c.loop-k.invariant.range;
    }

pub returns-in-None : goal.returns-in-None
returns-in-None c =
    let g = c.args.self.now.guide.now in
    let lists : List (List ℕ) = c.args.self.now.routes.now.lists in
    let pieces : List Piece = c.args.self.now.pieces.now in
    let place = length pieces - (c.loop-k.k + 1) in
    let from_here : List ℕ = last-of c.args.self.now (c.loop-k.k + 1) in
    let there = went-begin g.model.now g.d g.v (runs_of g) (last-of c.args.self.now c.loop-k.k) c.args.next
    c.loop-k.first c.args.trail.now.steps.items c.loop-k.trail.steps.items c.loop-k.invariant.back in
    let none = sym (begin-none g.model.now g.d g.v (runs_of g) (joined lists pieces)
    (joined lists (take place pieces)) from_here c.args.next (joined_rest lists pieces place)
    (begin-stuck g.model.now g.d g.v (runs_of g) from_here (one-of c.args.self.now c.loop-k.k) (last-of c.args.self.now c.loop-k.k)
    c.args.next c.loop-k.first (one-more c.args.self.now c.loop-k.k c.loop-k-test.true) there (sym c.in-None.ensures.value))) in
    record { value = none; back = tt; range = tt }
