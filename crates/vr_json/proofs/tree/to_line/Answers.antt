use Rattle.std.proofs.Common.{◌++◌, ◌∷◌, [], string_bytes, ap, ◌∙◌}
use Rattle.serde_json.specs.Read.{read}
use Rattle.vr_json.proofs.LineFeeds.{read-fed}
use Rattle.vr_json.proofs.tree.to_line.Goals as goal

pub returns-clause-reads_back : goal.returns-clause-reads_back
returns-clause-reads_back c =
    let bytes = c.from-line.ensures ∙ ap (λ v. v.items) c.into_bytes.ensures.value in
    ap read (c.in_ok-push.ensures.ok ∙ ap (λ t. t ++ 10 ∷ []) bytes)
    ∙ read-fed (string_bytes c.in_ok-text.text) ∙ c.in_ok-text.ensures.reads_back c.requires.nested
