use Rattle.std.proofs.Common.{◌<◌, w64, to_z, of_z, rules, sym, subst, arith}
use Rattle.std.specs.Prelude.{◌+ℤ◌}
use Rattle.vr_model.specs.declared.records.Model.{Model}
use Rattle.vr_parts.proofs.PartLemmas.{small}
use Rattle.vr_arccosts.specs.Runs.{gap_added}
use Rattle.vr_arccosts.proofs.AddedLemmas.{list-read}
use Rattle.vr_arccosts.proofs.LineLemmas.{least-told}
use Rattle.vr_arccosts.proofs.RunLemmas.{relocate-no-less}
use Rattle.vr_arccosts.proofs.committed.Committed.first_relocated.Goals as goal

pub invariant_of-put : goal.invariant_of-put
invariant_of-put c =
    let s = small c.args.self.kept.now.model c.args.self.stands.well_formed c.args.self.routes.now.lists c.args.self.stands.valid in
    let node = subst (λ (m : Model). c.node_at-node.result < m.nodes) (sym c.line_of-line.ensures.model)
    (subst (λ n. n < c.args.self.kept.now.model.nodes) (sym c.node_at-node.ensures)
    (s.below c.args.v c.args.a 0 (omega (arith, c.if-a-len.false, c.len.ensures.value)))) in
    record { sound = record { first_known = node; last_known = node; range = search rules } }

pub returns-clause-no_less : goal.returns-clause-no_less
returns-clause-no_less c t low high =
    let a = c.args in
    let line = c.line_of-line.ensures in
    let node = c.node_at-node.result in
    let base = c.between_adds-base.ensures in
    let read = to_z w64 (of_z w64 c.between_adds-base.result) in
    relocate-no-less a.self.kept.now.model a.self.routes.now.lists a.v a.a a.w t a.asked.bound read (list-read base.range base.value) c.node_at-node.ensures
    (least-told a.asked.bound (λ m n l. read +ℤ gap_added m n l node node t) line.model line.vehicle line.list (c.first_gap.ensures.no_less t low high))
