use Rattle.std.proofs.Common.{◌≡◌, of_z, subst, sym, to_z, w64, rules}
use Rattle.std.specs.Prelude.{FitsSigned, IfOk, IsTrue, Some}
use Rattle.std.proofs.lemmas.Int.{to_z-of_z}
use Rattle.serde_json.specs.Read.{read}
use Rattle.vr_json.specs.Trees.{text_line}
use Rattle.vr_model.specs.routes.Rules.{is_valid}
use Rattle.vr_print.specs.Solution.{solution_tree}
use Rattle.vr_print.proofs.solution.solution_line.Goals as goal

pub solution_line_over-requires : goal.solution_line_over-requires
solution_line_over-requires c =
    record { valid = subst (λ model. IsTrue (is_valid model c.args.routes.now.lists)) (sym c.in_ok-lookups.ensures) c.requires.valid }

pub returns-clause-text : goal.returns-clause-text
returns-clause-text c =
    let fits : FitsSigned w64 c.args.first_cost = search rules in
    subst (λ cost. IfOk c.solution_line_over.result (λ line. line ≡ text_line (solution_tree c.args.model.now c.args.routes.now.lists cost c.args.report)))
    (to_z-of_z w64 c.args.first_cost fits)
    (subst (λ model. IfOk c.solution_line_over.result
    (λ line. line ≡ text_line (solution_tree model c.args.routes.now.lists (to_z w64 (of_z w64 c.args.first_cost)) c.args.report)))
    c.in_ok-lookups.ensures c.solution_line_over.ensures.text)

pub returns-clause-reads_back : goal.returns-clause-reads_back
returns-clause-reads_back c =
    let fits : FitsSigned w64 c.args.first_cost = search rules in
    subst (λ cost. IfOk c.solution_line_over.result (λ line. read line ≡ Some (solution_tree c.args.model.now c.args.routes.now.lists cost c.args.report)))
    (to_z-of_z w64 c.args.first_cost fits)
    (subst (λ model. IfOk c.solution_line_over.result
    (λ line. read line ≡ Some (solution_tree model c.args.routes.now.lists (to_z w64 (of_z w64 c.args.first_cost)) c.args.report)))
    c.in_ok-lookups.ensures c.solution_line_over.ensures.reads_back)
