use Rattle.std.proofs.Common.{option_map, sym, ap, ◌∙◌}
use Rattle.std.specs.Str.{bytes_eq}
use Rattle.vr_json.specs.Kinds.{named}
use Rattle.vr_json.proofs.Lists.{found_here, passed_over, none_left}
use Rattle.vr_json.proofs.leaves.meaning.Goals as goal

pub returns-then-eq : goal.returns-then-eq
returns-then-eq g c =
    let found = found_here named (λ w. bytes_eq w.0 c.args.text.now) c.args.words.now c.loop-word.word-index
    c.loop-word-item.result c.loop-word-test.true c.loop-word-item.is (sym c.eq.ensures ∙ c.if-eq.true) in
    ap (option_map (λ w. w.1)) (sym found ∙ c.loop-word.invariant)

pub loop-word-preserved : goal.loop-word-preserved
loop-word-preserved g c =
    sym (passed_over named (λ w. bytes_eq w.0 c.args.text.now) c.args.words.now c.loop-word.word-index
    c.loop-word-item.result c.loop-word-test.true c.loop-word-item.is (sym c.eq.ensures ∙ c.if-eq.false))
    ∙ c.loop-word.invariant

pub returns : goal.returns
returns g c =
    ap (option_map (λ w. w.1))
    (sym (none_left named (λ w. bytes_eq w.0 c.args.text.now) c.args.words.now c.loop-word.word-index c.loop-word-test.false) ∙ c.loop-word.invariant)
