use Rattle.std.proofs.Common.{◌≡◌, ◌∙◌, ℕ, List, [], ◌∷◌, ◌++◌, ◌+◌, length, length-append, refl, ap, sym, subst, arith}
use Rattle.std.specs.Prelude.{pos}
use Rattle.vr_model.specs.declared.records.Model.{Model}
use Rattle.vr_parts.proofs.RowLemmas.{rows-push}
use Rattle.vr_bounds.specs.declared.puts.Bound.{Bound}
use Rattle.vr_bounds.specs.Kept.{unknown, IsPutsOf}
use Rattle.vr_bounds.proofs.KeptLemmas.{fresh}
use Rattle.vr_bounds.proofs.puts.Puts.new.Goals as goal

-- what is known of each node
abbrev first : Bound
first = record { least = pos 9223372036854775807; stamp = 0; walked = 0 }

pub loop-node-init : goal.loop-node-init
loop-node-init c = record { many = ap length c.in_ok-bounds.ensures; unknown = λ node low. absurd (omega (arith, low)) }

pub loop-node-preserved : goal.loop-node-preserved
loop-node-preserved c =
    let i = c.loop-node.invariant in
    record {
      many = ap length c.in_ok-push.ensures.ok ∙ length-append c.loop-node.bounds (first ∷ []) ∙ ap (λ n. n + 1) i.many;
      unknown =
          rows-push (λ node b. b.stamp ≡ 0) unknown c.loop-node.bounds c.push.new.self first c.loop-node._node i.many i.unknown refl c.in_ok-push.ensures.ok;
    }

pub returns : goal.returns
returns c =
    let model : Model = c.args.driver.closed.model.now in
    let i = c.loop-node.invariant in
    let end = c.loop-node.auto._node-end in
    let past = c.loop-node-test.false in
    let all : c.loop-node._node ≡ model.nodes = omega (arith, end, past) in
    let ages = c.push-2.ensures ∙ ap (λ l. l ++ 1 ∷ []) c.new-ages.ensures in
    subst (λ (row : List ℕ). IsPutsOf model c.args.driver.vehicle []
    (record { row = row; ages = c.push-2.new.self; clock = 1; bounds = c.loop-node.bounds })) (sym c.new.ensures)
    (subst (λ (ages : List ℕ). IsPutsOf model c.args.driver.vehicle [] (record { row = []; ages = ages; clock = 1; bounds = c.loop-node.bounds })) (sym ages)
    (fresh model c.args.driver.vehicle c.loop-node.bounds (i.many ∙ all) (λ node known. i.unknown node (omega (arith, all, known)))))
