use Rattle.std.proofs.Common.{◌≡◌, ◌∙◌, ap, sym, arith}
use Rattle.std.proofs.lemmas.Int.{ints}
use Rattle.std.specs.Prelude.{slice_index_or}
use Rattle.vr_model.specs.tables.Numbers.{number_at}
use Rattle.vr_model.specs.tables.Tables.{no_dimension, no_evaluator}
use Rattle.vr_loads.specs.Loads.{value_of}
use Rattle.vr_loads.proofs.LoadLines.{small}
use Rattle.vr_loads.proofs.sums.value.Goals as goal

pub returns-clause-range : goal.returns-clause-range
returns-clause-range c =
    let s = (small c.args.model.now c.args.d c.requires.load c.args.evaluator c.requires.evaluator).each c.args.node in
    let same : c.value.result ≡ value_of c.args.model.now c.args.d c.args.evaluator c.args.node =
    c.value.ensures.value
    ∙ (ap (λ e. number_at e.values c.args.node) (sym (c.get.ensures.value no_evaluator))
    ∙ ap (λ x. number_at (slice_index_or x.evaluators c.args.evaluator no_evaluator).values c.args.node) (sym (c.get-dimension.ensures.value no_dimension))) in
    record { low = omega (arith, ints, s.low, s.high, same); high = omega (arith, ints, s.low, s.high, same) }
