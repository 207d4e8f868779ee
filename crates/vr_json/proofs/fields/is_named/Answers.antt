use Rattle.std.proofs.Common.{sym, ◌∙◌, rules, tests}
use Rattle.std.specs.Str.{bytes_eq}
use Rattle.std.proofs.lemmas.Iterator.{YieldsList-from_slice}
use Rattle.std.proofs.lemmas.Iterator.Search.{any_from_yields_List}
use Rattle.vr_json.proofs.Lists.{list_any-map}
use Rattle.vr_json.proofs.fields.is_named.Goals as goal

pub returns : goal.returns
returns c =
    let names = c.args.names.now in
    any_from_yields_List (λ name. bytes_eq name.now c.args.key.now) _ _ _ c.any.ensures.ran (YieldsList-from_slice names cc) (λ x b q k. search (rules, tests))
    ∙ sym (list_any-map (λ name. name.now) (λ name. bytes_eq name c.args.key.now) names)
