use Rattle.std.proofs.Common.{sym, ◌∙◌, rules, tests}
use Rattle.std.specs.Str.{bytes_eq}
use Rattle.std.proofs.lemmas.Iterator.{YieldsList-from_slice}
use Rattle.std.proofs.lemmas.Iterator.Search.{position_from_yields_List}
use Rattle.vr_json.proofs.Lists.{position-map}
use Rattle.vr_json.proofs.kinds.place_of.Goals as goal

pub returns-clause-found : goal.returns-clause-found
returns-clause-found c =
    let words = c.args.words.now in
    position_from_yields_List (λ word. bytes_eq word.now c.args.text.now) _ _ _
    c.position.ensures.ran (YieldsList-from_slice words cc) (λ x b q k. search (rules, tests))
    ∙ sym (position-map (λ word. word.now) (λ word. bytes_eq word c.args.text.now) words)
