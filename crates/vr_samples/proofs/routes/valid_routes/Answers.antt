use Rattle.std.specs.Prelude.{map}
use Rattle.std.proofs.lemmas.Bool.{false_from_ne_true, and_parts}
use Rattle.vr_model.specs.routes.Rules.{is_valid}
use Rattle.vr_rules.proofs.CompleteLemmas.{are-taken}
use Rattle.vr_samples.proofs.routes.valid_routes.Goals as goal

-- lists that are not taken are not valid
pub returns-in_default-clause-answer : goal.returns-in_default-clause-answer
unfolding is_valid
returns-in_default-clause-answer c =
    let model = c.args.model.now in
    let lists = map (λ list. list.now) c.args.lists.now in
    false_from_ne_true _ λ valid. are-taken model lists _ (and_parts _ _ valid).0 c.in_ok-routes.ensures.answer c.in_default.is
