use Rattle.std.proofs.Common.{◌≡◌, ◌∙◌, rules, ap, ap₂}
use Rattle.vr_model.specs.routes.Costs.{arcs_part, fixed_part, global_part, penalty_part, soft_part, span_part}
use Rattle.vr_check.specs.Findings.{earlier}
use Rattle.vr_check.specs.Parts.{part_broken}
use Rattle.vr_printed.specs.Printed.{assignment_of, lists_of}
use Rattle.vr_check.proofs.Widths.{read64, wide}
use Rattle.vr_check.proofs.numbers.wrong_parts.Goals as goal

pub returns : goal.returns
returns c =
    let model = c.args.solution.now.closed.model.now in
    let sound = c.args.solution.now.sound in
    let lists = sound.lists_are ∙ ap lists_of sound.routes_are in
    let parts = c.args.solution.now.printed.now.parts in
    let arcs : read64 parts.arcs ≡ parts.arcs = search rules in
    let fixed : read64 parts.fixed ≡ parts.fixed = search rules in
    let global : read64 parts.global ≡ parts.global = search rules in
    let penalty : read64 parts.penalty ≡ parts.penalty = search rules in
    let soft : read64 parts.soft ≡ parts.soft = search rules in
    let span : read64 parts.span ≡ parts.span = search rules in
    let x0 = c.wrong_part-arcs.ensures ∙ ap₂ (part_broken 0) arcs (wide c.arcs_of.result c.arcs_of.type_inv ∙ c.arcs_of.ensures ∙ ap (arcs_part model) lists) in
    let x1 = c.wrong_part-fixed.ensures
    ∙ ap₂ (part_broken 1) fixed (wide c.fixed_of.result c.fixed_of.type_inv ∙ c.fixed_of.ensures ∙ ap (fixed_part model) lists) in
    let x2 = c.wrong_part-global.ensures ∙ ap₂ (part_broken 2) global
    (wide c.global_of.result c.global_of.type_inv ∙ c.global_of.ensures ∙ ap (λ r. global_part model (assignment_of r)) sound.routes_are) in
    let x3 = c.wrong_part-penalty.ensures
    ∙ ap₂ (part_broken 3) penalty (wide c.penalty_of.result c.penalty_of.type_inv ∙ c.penalty_of.ensures ∙ ap (penalty_part model) lists) in
    let x4 = c.wrong_part-soft.ensures ∙ ap₂ (part_broken 4) soft
    (wide c.soft_of.result c.soft_of.type_inv ∙ c.soft_of.ensures ∙ ap (λ r. soft_part model (assignment_of r)) sound.routes_are) in
    let x5 = c.wrong_part-span.ensures ∙ ap₂ (part_broken 5) span
    (wide c.span_of.result c.span_of.type_inv ∙ c.span_of.ensures ∙ ap (λ r. span_part model (assignment_of r)) sound.routes_are) in
    c.earlier-4.ensures ∙ ap₂ earlier
    x0 (c.earlier-3.ensures
    ∙ ap₂ earlier x1 (c.earlier-2.ensures ∙ ap₂ earlier x2 (c.earlier-later.ensures ∙ ap₂ earlier x3 (c.earlier.ensures ∙ ap₂ earlier x4 x5))))
