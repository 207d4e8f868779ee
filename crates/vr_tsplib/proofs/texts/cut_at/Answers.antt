use Rattle.std.proofs.Common.{◌==◌, length, sym, ap, ◌∙◌}
use Rattle.std.specs.Prelude.{nat_lt}
use Rattle.std.proofs.lemmas.Bool.{lt-ltb, le-ltb}
use Rattle.vr_tsplib.proofs.TextLemmas.{any_found}
use Rattle.vr_tsplib.proofs.texts.cut_at.Goals as goal

pub returns-then-k-text-clause-none : goal.returns-then-k-text-clause-none
returns-then-k-text-clause-none c =
    let text = c.args.text.now in
    any_found (λ b. b == c.args.mark) text ∙ ap (λ n. nat_lt n (length text)) (sym c.place_of-k.ensures.value)
    ∙ le-ltb c.place_of-k.result (length text) c.if-k-text.true

pub returns-clause-some : goal.returns-clause-some
returns-clause-some c =
    let text = c.args.text.now in
    any_found (λ b. b == c.args.mark) text ∙ ap (λ n. nat_lt n (length text)) (sym c.place_of-k.ensures.value)
    ∙ lt-ltb c.place_of-k.result (length text) c.if-k-text.false
