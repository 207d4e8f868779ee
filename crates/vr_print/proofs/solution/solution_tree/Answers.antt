use Rattle.std.proofs.Common.{◌≡◌, of_z, subst, sym, to_z, w64, rules}
use Rattle.std.specs.Prelude.{FitsSigned, IfOk, IsTrue}
use Rattle.std.proofs.lemmas.Int.{to_z-of_z}
use Rattle.serde_json.specs.View.{view}
use Rattle.vr_model.specs.routes.Rules.{is_valid}
use Rattle.vr_print.specs.Solution.{solution_tree}
use Rattle.vr_print.proofs.solution.solution_tree.Goals as goal

pub solution_tree_over-requires : goal.solution_tree_over-requires
solution_tree_over-requires c =
    record { valid = subst (λ model. IsTrue (is_valid model c.args.routes.now.lists)) (sym c.in_ok-lookups.ensures) c.requires.valid }

pub returns-clause-tree : goal.returns-clause-tree
returns-clause-tree c =
    let fits : FitsSigned w64 c.args.first_cost = search rules in
    subst (λ cost. IfOk c.solution_tree_over.result (λ tree. view tree ≡ solution_tree c.args.model.now c.args.routes.now.lists cost c.args.report))
    (to_z-of_z w64 c.args.first_cost fits)
    (subst (λ model. IfOk c.solution_tree_over.result
    (λ tree. view tree ≡ solution_tree model c.args.routes.now.lists (to_z w64 (of_z w64 c.args.first_cost)) c.args.report))
    c.in_ok-lookups.ensures c.solution_tree_over.ensures.tree)
