use Rattle.std.proofs.Common.{◌≡◌, ◌+◌, [], pos, to_z, of_z, w64, ap, ◌∙◌, subst, arith}
use Rattle.std.proofs.lemmas.Int.{ints}
use Rattle.std.proofs.lemmas.List.{length-append}
use Rattle.std.proofs.lemmas.List.Elements.{All-push}
use Rattle.vr_model.specs.tables.Numbers.{number_at}
use Rattle.vr_steps.specs.Levels.{IsCumuls}
use Rattle.vr_plan.specs.Settled.{IsOnly}
use Rattle.vr_plan.proofs.FixedLemmas.{only_more}
use Rattle.vr_plan.proofs.narrow.only_sets.Goals as goal

pub loop-k-preserved : goal.loop-k-preserved
loop-k-preserved c =
    let k = c.loop-k.k in
    let m = c.loop-k.invariant in
    let range = c.requires.cumuls.in_range k (pos 0) (omega (arith, c.requires.cumuls.cumul_of_each_stop)) in
    let same : to_z w64 (of_z w64 (number_at c.args.cumuls.now k)) ≡ number_at c.args.cumuls.now k = omega (arith, ints, range) in
    let only = subst (λ x. IsOnly c.get.result.now x c.keep.new.only) same c.in_ok-keep.ensures.exact in
    rw c.in_ok-push.ensures.ok (record {
      long = length-append c.loop-k.sets _ ∙ ap (λ n. n + 1) m.long;
      each = only_more c.args.sound.line.now.allowed c.args.cumuls.now c.loop-k.sets
          k c.get.result.now c.keep.new.only m.long m.each (c.get.ensures.value []) only;
      cumuls = All-push IsCumuls _ _ m.cumuls c.in_ok-keep.ensures.cumuls;
    })
