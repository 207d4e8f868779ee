use Rattle.std.proofs.Common.{◌≡◌, ◌∙◌, ℕ, List, false, ap, sym, subst}
use Rattle.std.specs.Prelude.{IfSome, IsTrue, pos}
use Rattle.std.proofs.lemmas.Bool.{false≢true, not-true}
use Rattle.vr_model.specs.deciding.Testing.{eq_of_tests}
use Rattle.vr_model.specs.routes.Costs.{penalty_part}
use Rattle.vr_model.specs.routes.Rules.{is_valid}
use Rattle.vr_model.specs.tables.Numbers.{is_same_number}
use Rattle.vr_model.specs.tables.WellFormed.{IsWellFormed}
use Rattle.vr_model.specs.declared.records.Model.{Model}
use Rattle.vr_routes.specs.Runs.{with_last}
use Rattle.vr_model.specs.moves.Kinds.{changes_activity, kind_of}
use Rattle.vr_usecosts.specs.Groups.{SavesAtMost}
use Rattle.vr_judge.proofs.LeastLemmas.{all_save, by_penalties, none_to_pay, same_to_pay, unpaid}
use Rattle.vr_judge.proofs.costs.Costs.saved_by_run.Goals as goal
use Rattle.vr_judge.proofs.costs.Costs.saved_by_run.Goals.{then-pays_none-via-then-pays_none, then-pays_none-via-else-pays_none+then-keeps_activity}

-- more is paid than arcs and groups
pub returns-then-not-self-clause-known : goal.returns-then-not-self-clause-known
returns-then-not-self-clause-known c least =
    let h = c.requires.stands in
    let none = unpaid c.args.self.now.model c.args.routes.now.lists (kind_of c.args.mv)
    (sym h.arcs_and_groups_is ∙ ap (λ k. k.arcs_and_groups) (sym c.self.view_is) ∙ c.if-not-self.true) in
    absurd (false≢true (none ∙ least))

-- penalties are to pay, and moves of the kind may change them
pub returns-clause-known : goal.returns-clause-known
returns-clause-known c least =
    let h = c.requires.stands in
    let lists : List (List ℕ) = c.args.routes.now.lists in
    let total = ap (λ (m : Model). penalty_part m lists) (sym h.groups_model) ∙ sym h.groups.total_is ∙ ap (λ k. k.groups.total) (sym c.self.view_is) in
    let some = by_penalties c.args.self.now.model lists (kind_of c.args.mv) false
    (sym h.arcs_and_groups_is ∙ ap (λ k. k.arcs_and_groups) (sym c.self.view_is) ∙ c.if-not-self.false)
    (ap (λ x. is_same_number x (pos 0)) total ∙ sym c.pays_none.ensures ∙ c.if-pays_none.false) in
    absurd (false≢true (sym c.if-keeps_activity.false ∙ c.keeps_activity.ensures ∙ some ∙ least))

pub returns-then-pays_none-clause-least : goal.returns-then-pays_none-clause-least
returns-then-pays_none-clause-least c =
    let h = c.requires.stands in
    let model : Model = c.args.self.now.model in
    let lists : List (List ℕ) = c.args.routes.now.lists in
    let pays = h.arcs_and_groups (ap (λ k. k.arcs_and_groups) (sym c.self.view_is) ∙ c.if-not-self.false) in
    let valid = subst (λ (m : Model). IsTrue (is_valid m lists)) h.groups_model h.groups.valid in
    let well = subst IsWellFormed h.groups_model h.groups.well_formed in
    let total : penalty_part model lists ≡ c.self.inside.groups.total = ap (λ (m : Model). penalty_part m lists) (sym h.groups_model)
    ∙ sym h.groups.total_is ∙ ap (λ k. k.groups.total) (sym c.self.view_is) in
    elim c.then-pays_none.branch [
      | then-pays_none-via-then-pays_none w ↦
          none_to_pay model pays lists valid well (total ∙ eq_of_tests _ (pos 0) (sym c.pays_none.ensures ∙ w.if-pays_none.true)) c.args.mv
      | then-pays_none-via-else-pays_none+then-keeps_activity w ↦ same_to_pay model pays lists valid c.args.mv
          (not-true (changes_activity (kind_of c.args.mv)) (sym w.keeps_activity.ensures ∙ w.if-keeps_activity.true))
    ]

pub returns-clause-least : goal.returns-clause-least
returns-clause-least c =
    let h = c.requires.stands in
    let model : Model = c.args.self.now.model in
    let lists : List (List ℕ) = c.args.routes.now.lists in
    let pays = h.arcs_and_groups (ap (λ k. k.arcs_and_groups) (sym c.self.view_is) ∙ c.if-not-self.false) in
    let valid = subst (λ (m : Model). IsTrue (is_valid m lists)) h.groups_model h.groups.valid in
    let same : c.self.inside.groups.model ≡ model = ap (λ k. k.groups.model) c.self.view_is ∙ h.groups_model in
    all_save model pays lists valid c.args.mv c.saved_at_most_by_run.result
    (subst (λ (m : Model). IfSome c.saved_at_most_by_run.result (λ saved. (k : ℕ) → SavesAtMost m lists (with_last c.args.mv k) saved))
    same c.saved_at_most_by_run.ensures.at_most)
