use Rattle.std.proofs.Common.{◌≡◌, ℕ, List, Result, length, sym, ap, subst, ◌∙◌, arith}
use Rattle.std.specs.Prelude.{⊤}
use Rattle.vr_json.specs.Paths.{item_path}
use Rattle.vr_json.specs.Reading.{Answers}
use Rattle.vr_json.specs.declared.fault.ReadFail.{ReadFail}
use Rattle.vr_model.specs.tables.Tables.{no_dimension}
use Rattle.vr_model.specs.declared.records.Model.{Model}
use Rattle.vr_model.specs.declared.records.Dimension.{Dimension}
use Rattle.vr_read.specs.Rules.{dimension_entries_rule, entries_rule_at}
use Rattle.vr_read.proofs.RuleLoops.{rule_passes, rule_stops, rule_ends}
use Rattle.vr_read.proofs.model_rules.keep_entries.Goals as goal

-- the rule was asked of the dimension and the place of the definition
moved : {a : Result ⊤ ReadFail} (model : Model) {place path : List ℕ} {dimension other : Dimension} → place ≡ path → other ≡ dimension
    → Answers a (dimension_entries_rule place model dimension) → Answers a (dimension_entries_rule path model other)
moved {a} model {place} {other} e f h =
    let P : List ℕ → Type 0 = λ p. Answers a (dimension_entries_rule p model other) in
    let Q : Dimension → Type 0 = λ dimension. Answers a (dimension_entries_rule place model dimension) in
    subst P e (subst Q (sym f) h)

pub returns-in_err-keep_dimension_entries : goal.returns-in_err-keep_dimension_entries
returns-in_err-keep_dimension_entries c =
    let model = c.args.of.model.now in
    rule_stops (entries_rule_at c.args.path.now model) (length model.dimensions) c.loop-d.d c.loop-d.invariant (omega arith) _
    (moved model (c.in_ok-place.ensures ∙ ap (λ p. item_path p c.loop-d.d) c.in_ok-dimensions.ensures)
    (c.get.ensures.value no_dimension) c.in_err-keep_dimension_entries.ensures)
    c.from_residual-in_err-keep_dimension_entries.ensures.1

pub loop-d-preserved : goal.loop-d-preserved
loop-d-preserved c =
    let model = c.args.of.model.now in
    rule_passes (entries_rule_at c.args.path.now model) (length model.dimensions) c.loop-d.d c.loop-d.invariant (omega arith)
    (moved model (c.in_ok-place.ensures ∙ ap (λ p. item_path p c.loop-d.d) c.in_ok-dimensions.ensures)
    (c.get.ensures.value no_dimension) c.in_ok-keep_dimension_entries.ensures)

pub returns : goal.returns
returns c =
    let model = c.args.of.model.now in
    rule_ends (entries_rule_at c.args.path.now model) (length model.dimensions) c.loop-d.d c.loop-d.invariant (omega arith)
