use Rattle.std.proofs.Common.{◌≡◌, ◌≤◌, ℕ, Bool, true, ◌&&◌, ◌∷◌, ◌+◌, not, length, drop, sym, ap, ◌∙◌, arith}
use Rattle.std.specs.Prelude.{filter, nat_lt}
use Rattle.std.proofs.lemmas.Bool.Decides.{nat_tests}
use Rattle.vr_model.specs.deciding.Testing.{and_left}
use Rattle.vr_model.specs.tables.Numbers.{below, from_to}
use Rattle.vr_model.specs.tables.Tables.{is_visit}
use Rattle.vr_model.specs.routes.Routes.{is_active, is_same}
use Rattle.vr_model.proofs.tables.Ranges.{walk_begins}
use Rattle.vr_model.proofs.tables.Tests.{filter-filter}
use Rattle.vr_model.specs.moves.MoveTests.{is_inactive}
use Rattle.vr_check.proofs.Firsts.{not_right}
use Rattle.vr_check.proofs.Walks.{keeps, leaves_out, same_next, other_next}
use Rattle.vr_check.proofs.visits.wrong_dropped.Goals as goal
use Rattle.vr_check.proofs.visits.wrong_dropped.Goals.{then-is_inactive+else-not-is_next, else-is_inactive}

next_low : (n k : ℕ) (b : Bool) → (nat_lt k n && b) ≡ true → k + 1 ≤ n
next_low n k b h = let low = and_left (nat_lt k n) b h in grind (arith, nat_tests, low)

pub loop-node-init : goal.loop-node-init
loop-node-init c =
    let model = c.args.model.now in
    let lists = c.args.lists.now in
    record {
      within = omega arith;
      left = ap (is_same c.args.dropped.now) (walk_begins (filter (is_inactive model lists)) model.nodes
          ∙ sym (filter-filter (λ node. not (is_active lists node)) (is_visit model) (below model.nodes)));
    }

pub returns-then-not-is_next : goal.returns-then-not-is_next
returns-then-not-is_next c =
    let inactive_from = λ (n : ℕ). filter (is_inactive c.args.model.now c.args.lists.now) (from_to n c.args.model.now.nodes) in
    let n = c.loop-node.node in
    let kept : inactive_from n ≡ n ∷ inactive_from (n + 1) = keeps (is_inactive c.args.model.now c.args.lists.now)
    n c.args.model.now.nodes c.loop-node-test.true (sym c.is_inactive.ensures ∙ c.if-is_inactive.true) in
    let other = other_next c.args.dropped.now (inactive_from (n + 1)) c.loop-node.k n (sym c.is_next.ensures ∙ c.if-not-is_next.true) in
    sym (not_right (sym c.loop-node.invariant.left ∙ ap (is_same (drop c.loop-node.k c.args.dropped.now)) kept ∙ other) c.nowhere.ensures)

pub loop-node-preserved : goal.loop-node-preserved
loop-node-preserved c =
    let inactive_from = λ (n : ℕ). filter (is_inactive c.args.model.now c.args.lists.now) (from_to n c.args.model.now.nodes) in
    let n = c.loop-node.node in
    elim c.if-is_inactive.branch [
      | then-is_inactive+else-not-is_next w ↦ (
          let kept : inactive_from n ≡ n ∷ inactive_from (n + 1) = keeps (is_inactive c.args.model.now c.args.lists.now)
          n c.args.model.now.nodes c.loop-node-test.true (sym c.is_inactive.ensures ∙ w.if-is_inactive.true) in
          let next = sym w.is_next.ensures ∙ w.if-not-is_next.false in
          let same = same_next c.args.dropped.now (inactive_from (n + 1)) c.loop-node.k n next in
          rw w.k-is (record {
            within = next_low (length c.args.dropped.now) c.loop-node.k _ next;
            left = sym same ∙ sym (ap (is_same (drop c.loop-node.k c.args.dropped.now)) kept) ∙ c.loop-node.invariant.left;
          }))
      | else-is_inactive w ↦ (
          let left : inactive_from n ≡ inactive_from (n + 1) = leaves_out (is_inactive c.args.model.now c.args.lists.now)
          n c.args.model.now.nodes c.loop-node-test.true (sym c.is_inactive.ensures ∙ w.if-is_inactive.false) in
          rw w.k-is (record {
            within = c.loop-node.invariant.within;
            left = sym (ap (is_same (drop c.loop-node.k c.args.dropped.now)) left) ∙ c.loop-node.invariant.left;
          }))
    ]
