use Rattle.std.proofs.Common.{◌∙◌, ◌<◌, List, length, length-set, arith}
use Rattle.vr_model.specs.moves.Moves.{with_route}
use Rattle.vr_earliest.proofs.WritingLemmas.{written-more}
use Rattle.vr_earliest.specs.Kept.{KeptWays}
use Rattle.vr_earliest.specs.Kept.{HaveWays}
use Rattle.vr_earliest.proofs.earliest.write_list.Goals as goal

pub loop-d-init : goal.loop-d-init
loop-d-init c = record {
  many = c.requires.many;
  written = λ lists all known. record { done = λ d other low. absurd (omega (arith, low)); left = λ d other _ low. all.each d other low };
}

pub loop-d-preserved : goal.loop-d-preserved
loop-d-preserved c =
    let i = c.loop-d.invariant in
    let m = c.args.closed.model.now in
    let at = c.loop-d.d in
    let inside : at < length c.loop-d.kept = omega (arith, c.loop-d-test.true, i.many, c.requires.many) in
    record {
      many = length-set c.loop-d.kept at c.write.new.self ∙ i.many;
      written = λ lists all known.
          let h = i.written lists all known in
          written-more (λ d (ones : List KeptWays). HaveWays m d (with_route lists c.args.v c.args.list.now) ones)
          (λ d (ones : List KeptWays). HaveWays m d lists ones) at c.loop-d.kept h inside c.write.new.self
          (c.write.ensures lists (h.left at c.index-kept-d.result (omega arith) inside) known);
    }

pub returns : goal.returns
returns c lists all known =
    let i = c.loop-d.invariant in
    record { many = i.many; each = λ d other low. (i.written lists all known).done d other (omega (arith, low, i.many, c.requires.many, c.loop-d-test.false)) }
