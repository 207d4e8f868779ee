use Rattle.std.proofs.Common.{◌≡◌, ◌∙◌, ℕ, List, ap, sym, subst}
use Rattle.std.specs.Prelude.{IsTrue}
use Rattle.std.proofs.lemmas.Result.{IfOk-weaker}
use Rattle.vr_model.specs.moves.Moves.{apply}
use Rattle.vr_model.specs.routes.Routes.{are_lists}
use Rattle.vr_model.specs.routes.Rules.{is_valid}
use Rattle.vr_model.proofs.moves.KeptLists.{moves_keep_lists}
use Rattle.vr_model.proofs.routes.Lists.{are-lists}
use Rattle.vr_routes.specs.Pieces.{changed}
use Rattle.vr_routes.specs.Tours.{Tours}
use Rattle.vr_search_tests.proofs.questions.stays_valid.Goals as goal

pub valid-requires-clause-lists : goal.valid-requires-clause-lists
valid-requires-clause-lists c =
    let model = c.args.closed.model.now in
    let lists : List (List ℕ) = c.args.routes.now.lists in
    let after : c.commit.new.self.lists ≡ apply model lists c.requires.moved.0 = c.commit.ensures.lists
    ∙ (ap (λ (r : Tours). changed r.lists c.args.change.now) c.in_ok-after.ensures ∙ c.requires.moved.2.lists_are) in
    subst (λ ls. IsTrue (are_lists model ls)) (sym after)
    (moves_keep_lists model c.args.closed.well_formed lists c.requires.moved.0 (are-lists model lists c.requires.valid) c.requires.moved.1)

pub returns : goal.returns
returns c =
    let model = c.args.closed.model.now in
    let after = c.commit.ensures.lists ∙ ap (λ (r : Tours). changed r.lists c.args.change.now) c.in_ok-after.ensures in
    IfOk-weaker c.valid.result _ (λ stays. stays ≡ is_valid model (changed c.args.routes.now.lists c.args.change.now))
    (λ _ same. same ∙ ap (is_valid model) after) c.valid.ensures
