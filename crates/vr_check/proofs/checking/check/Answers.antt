use Rattle.std.proofs.Common.{◌≡◌, map, sym, ap, ◌∙◌}
use Rattle.std.proofs.lemmas.Result.{IfOk-weaker}
use Rattle.serde_json.specs.View.{view}
use Rattle.vr_printed.specs.Printed.{visits_of}
use Rattle.vr_check.specs.Findings.{broken_at}
use Rattle.vr_check.specs.Check.{finding, finding_in, lists_finding}
use Rattle.vr_check.specs.declared.finding.Rule.TheVariants.{Shape}
use Rattle.vr_printed.proofs.Shaped.{printed_shaped}
use Rattle.vr_check.proofs.checking.check.Goals as goal

pub lists_finding-requires-clause-shaped : goal.lists_finding-requires-clause-shaped
lists_finding-requires-clause-shaped c =
    printed_shaped c.args.model.now (view c.args.solution.now) c.in-Some.printed (sym c.in_ok-read_printed.ensures ∙ c.in-Some.is)

pub returns-in-None : goal.returns-in-None
unfolding finding
returns-in-None c = c.broken.ensures ∙ ap (broken_at Shape) c.nowhere.ensures
    ∙ ap (finding_in c.args.model.now) (sym c.in-None.is ∙ c.in_ok-read_printed.ensures)

pub returns-in_ok-lists-in-Some : goal.returns-in_ok-lists-in-Some
unfolding finding
returns-in_ok-lists-in-Some c =
    let model = c.args.model.now in
    IfOk-weaker c.lists_finding.result
    (λ found. found ≡ lists_finding model c.in-Some.printed c.as_slice-in-Some.result.now)
    (λ found. found ≡ finding model (view c.args.solution.now))
    (λ found is.
    is ∙ ap (lists_finding model c.in-Some.printed) (c.as_slice-in-Some.ensures ∙ c.in_ok-lists-in-Some.ensures ∙ ap (map visits_of) c.as_slice.ensures)
    ∙ ap (finding_in model) (sym c.in-Some.is ∙ c.in_ok-read_printed.ensures))
    c.lists_finding.ensures
