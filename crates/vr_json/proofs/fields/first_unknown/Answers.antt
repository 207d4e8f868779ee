use Rattle.std.proofs.Common.{ℕ, List, not, length, string_bytes, map, option_map, find, String, Global, Bor, ap, ◌∙◌, rules, tests}
use Rattle.std.specs.Map.Iter.{deref, TakesFirst}
use Rattle.std.proofs.lemmas.Iterator.Consumers.{YieldsList-from_shown}
use Rattle.std.proofs.lemmas.Iterator.Search.{find_from_yields_List}
use Rattle.vr_json.specs.Reading.{is_named}
use Rattle.vr_json.proofs.Lists.{found_key, shown_key}
use Rattle.vr_json.proofs.fields.first_unknown.Goals as goal

pub returns : goal.returns
returns c =
    let names = map (λ (name : Bor (List ℕ)). name.now) c.args.names.now in
    let chain = YieldsList-from_shown (TakesFirst (deref {X = String Global})) (deref {X = String Global})
    (λ (s : List (String Global)). s) (λ s t h. ap length h.0) (λ s x t h. h) c.keys.result in
    let found = find_from_yields_List {v = deref {X = String Global}} (λ key. not (is_named names (string_bytes key)))
    _ _ c.find.result c.find.ensures.ran chain (λ x b q k. search (rules, tests)) in
    shown_key c.find.result ∙ ap (option_map string_bytes) (found ∙ ap (find (λ key. not (is_named names (string_bytes key)))) c.keys.ensures.rest)
    ∙ found_key (λ key. not (is_named names key)) c.args.members.now.entries
