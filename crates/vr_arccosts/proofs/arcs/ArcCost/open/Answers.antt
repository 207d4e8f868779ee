use Rattle.std.proofs.Common.{◌≡◌, ◌∙◌, ◌<◌, ◌+◌, ℕ, List, [], ◌∷◌, length, length-append, ap, sym, subst, arith}
use Rattle.std.specs.Prelude.{All}
use Rattle.vr_model.specs.routes.Routes.{route}
use Rattle.vr_arccosts.specs.Along.{IsAlong, no_sums}
use Rattle.vr_parts.proofs.RowLemmas.{rows-push}
use Rattle.vr_parts.proofs.PartLemmas.{small}
use Rattle.vr_arccosts.proofs.arcs.ArcCost.open.Goals as goal

pub write-requires-clause-vehicle : goal.write-requires-clause-vehicle
write-requires-clause-vehicle c =
    let s = small c.args.model.now c.requires.well_formed c.args.routes.now.lists c.requires.valid in
    let many = s.many in
    let end = c.vehicles-v-end.ensures.value in
    let low = c.loop-v-test.true in
    omega (arith, many, end, low)

pub write-requires-clause-nodes : goal.write-requires-clause-nodes
write-requires-clause-nodes c =
    let s = small c.args.model.now c.requires.well_formed c.args.routes.now.lists c.requires.valid in
    subst (λ l. All (λ node. node < c.args.model.now.nodes) l) (sym c.list.ensures.value) (s.below c.loop-v.v)

pub loop-v-preserved : goal.loop-v-preserved
loop-v-preserved c =
    let i = c.loop-v.invariant in
    let v = c.loop-v.v in
    let model = c.args.model.now in
    let lists : List (List ℕ) = c.args.routes.now.lists in
    let new = subst (λ l. IsAlong model v l c.write.new.self) c.list.ensures.value c.write.ensures in
    let items = c.in_ok-push.ensures.items in
    record {
      many = ap length items ∙ length-append c.loop-v.along.items (c.write.new.self ∷ []) ∙ ap (λ n. n + 1) i.many;
      along = rows-push (λ u row. IsAlong model u (route lists u) row) no_sums
          c.loop-v.along.items c.push.new.self.items c.write.new.self v i.many i.along new items;
    }

pub returns-clause-stands : goal.returns-clause-stands
returns-clause-stands c =
    let i = c.loop-v.invariant in
    let lists : List (List ℕ) = c.args.routes.now.lists in
    let s = small c.args.model.now c.requires.well_formed lists c.requires.valid in
    let many = i.many in
    let end = c.vehicles-v-end.ensures.value in
    let high = c.loop-v-test.false in
    let low = c.loop-v.auto.v-end in
    let all : c.loop-v.v ≡ length lists = omega (arith, end, high, low) in
    record {
      well_formed = c.requires.well_formed;
      of_model = c.requires.of_model;
      valid = c.requires.valid;
      as_many = s.many;
      many = many ∙ all ∙ s.many;
      along = λ v known. i.along v (subst (λ n. v < n) (sym all) known);
    }
