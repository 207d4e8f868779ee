use Rattle.std.proofs.Common.{◌∷◌, length, take, drop, sym, ap, ◌∙◌}
use Rattle.std.proofs.lemmas.Bool.{eqb-true}
use Rattle.vr_tsplib.specs.Texts.{words}
use Rattle.vr_tsplib.proofs.TextLemmas.{first_found, no_bytes, some_bytes, take_rest}
use Rattle.vr_tsplib.proofs.texts.first_word.Goals as goal

pub returns-then-is_empty-clause-words : goal.returns-then-is_empty-clause-words
returns-then-is_empty-clause-words c =
    let rest = c.skip_blanks-rest.result.now in
    sym c.skip_blanks-rest.ensures.same ∙ no_bytes rest (eqb-true (length rest) 0 (sym c.is_empty.ensures ∙ c.if-is_empty.true))

pub returns-clause-words : goal.returns-clause-words
returns-clause-words c =
    let rest = c.skip_blanks-rest.result.now in
    let k = c.word_len-k.result in
    sym c.skip_blanks-rest.ensures.same
    ∙ first_found rest c.skip_blanks-rest.ensures.begins (some_bytes (length rest) (sym c.is_empty.ensures ∙ c.if-is_empty.false))
    ∙ ap (λ n. take n rest ∷ words (drop n rest)) (sym c.word_len-k.ensures.value)
    ∙ ap (λ t. take k rest ∷ words t) (sym (take_rest k rest))
