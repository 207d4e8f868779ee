use Rattle.std.proofs.Common.{◌∙◌, ◌≤◌, ap, sym, subst, w64, rules}
use Rattle.std.specs.Prelude.{FitsSigned, ℤ}
use Rattle.std.proofs.lemmas.Int.{to_z-of_z}
use Rattle.std.proofs.lemmas.Result.{IfOk-weaker}
use Rattle.serde_json.specs.Data.{depth}
use Rattle.serde_json.specs.Read.{max_depth}
use Rattle.serde_json.specs.View.{view}
use Rattle.serde_json.specs.Written.{has_float}
use Rattle.vr_model.specs.routes.Costs.{assigned, parts_at}
use Rattle.vr_model.specs.routes.Routes.{inactive}
use Rattle.vr_model.proofs.routes.Lists.{are-lists}
use Rattle.vr_print.specs.Solution.{assignment_tree, tree_of}
use Rattle.vr_print.proofs.TreeLemmas.{IsPrintable, assignment-printable}
use Rattle.vr_print.proofs.solution.solution_tree_over.Goals as goal

pub routes_tree-requires : goal.routes_tree-requires
routes_tree-requires c = are-lists c.args.lookups.now.closed.model.now c.args.routes.now.lists c.requires.valid

pub returns : goal.returns
unfolding assignment_tree
returns c =
    let model = c.args.lookups.now.closed.model.now in
    let lists = c.args.routes.now.lists in
    let fits : FitsSigned w64 c.args.first_cost = search rules in
    let same = ap (λ (first_cost : ℤ). tree_of c.in_ok-parts.parts c.deref.result.now (view c.in_ok-trees.trees) first_cost c.args.report)
    (to_z-of_z w64 c.args.first_cost fits)
    ∙ ap (λ parts. tree_of parts c.deref.result.now (view c.in_ok-trees.trees) c.args.first_cost c.args.report) c.in_ok-parts.ensures.parts
    ∙ ap (λ dropped. tree_of (parts_at model (assigned model lists)) dropped (view c.in_ok-trees.trees) c.args.first_cost c.args.report)
    (c.deref.ensures.value ∙ c.in_ok-dropped.ensures)
    ∙ ap (λ routes. tree_of (parts_at model (assigned model lists)) (inactive model lists) routes c.args.first_cost c.args.report) c.in_ok-trees.ensures in
    let p = subst IsPrintable (sym same) (assignment-printable model (assigned model lists) c.args.first_cost c.args.report) in
    record {
      tree = IfOk-weaker c.tree_of.result _ _ (λ tree is. is ∙ same) c.tree_of.ensures;
      whole = IfOk-weaker c.tree_of.result _ _ (λ tree is. ap has_float is ∙ p.whole) c.tree_of.ensures;
      nested = IfOk-weaker c.tree_of.result _ _ (λ tree is. subst (λ d. depth d ≤ max_depth) (sym is) p.nested) c.tree_of.ensures;
    }
