use Rattle.std.proofs.Common.{◌==◌, length, unwrap_or, ap, sym, subst, ◌∙◌, ◌≤◌, ℕ, rules, tests}
use Rattle.std.proofs.lemmas.Iterator.{YieldsList-from_slice}
use Rattle.std.proofs.lemmas.Iterator.Search.{position_from_yields_List}
use Rattle.vr_tsplib.specs.Texts.{is_blank}
use Rattle.vr_tsplib.proofs.TextLemmas.{place_is, place_low}
use Rattle.vr_tsplib.proofs.texts.word_len.Goals as goal

pub returns-clause-value : goal.returns-clause-value
returns-clause-value c =
    let text = c.args.text.now in
    c.unwrap_or.ensures
    ∙ ap (λ o. unwrap_or o (length text))
    (position_from_yields_List is_blank _ _ _ c.position.ensures.ran (YieldsList-from_slice text cc) (λ x b q k. search (rules, tests)))
    ∙ place_is is_blank text

pub returns-clause-within : goal.returns-clause-within
returns-clause-within c = let P : ℕ → Type 0 = λ n. n ≤ length c.args.text.now in subst P (sym (returns-clause-value c)) (place_low is_blank c.args.text.now)
