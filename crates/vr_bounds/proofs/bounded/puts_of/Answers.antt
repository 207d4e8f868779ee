use Rattle.std.proofs.Common.{◌∙◌, ◌<◌, ◌+◌, ℕ, List, [], ◌∷◌, length, length-append, ap, sym, subst, arith}
use Rattle.std.specs.Prelude.{All}
use Rattle.vr_model.specs.declared.records.Model.{Model}
use Rattle.vr_model.specs.routes.Routes.{route}
use Rattle.vr_parts.proofs.PartLemmas.{small}
use Rattle.vr_parts.proofs.RowLemmas.{rows-push}
use Rattle.vr_bounds.specs.Kept.{no_puts, IsPutsOf}
use Rattle.vr_bounds.proofs.bounded.puts_of.Goals as goal

pub invariant_of-driver : goal.invariant_of-driver
invariant_of-driver c =
    let s = small c.args.closed.model.now c.args.closed.well_formed c.args.routes.now.lists c.requires.valid in
    let many = s.many in
    let end = c.vehicles-v-end.ensures.value in
    let low = c.loop-v-test.true in
    record { known = omega (arith, many, end, low) }

pub follow-requires-clause-nodes : goal.follow-requires-clause-nodes
follow-requires-clause-nodes c =
    let s = small c.args.closed.model.now c.args.closed.well_formed c.args.routes.now.lists c.requires.valid in
    subst (λ l. All (λ node. node < c.args.closed.model.now.nodes) l) (sym (c.row_of.ensures ∙ c.list.ensures.value)) (s.below c.loop-v.v)

pub loop-v-preserved : goal.loop-v-preserved
loop-v-preserved c =
    let i = c.loop-v.invariant in
    let v = c.loop-v.v in
    let model : Model = c.args.closed.model.now in
    let lists : List (List ℕ) = c.args.routes.now.lists in
    let new : IsPutsOf model v (route lists v) c.follow.new.self = record {
      row = c.follow.ensures.row ∙ c.row_of.ensures ∙ c.list.ensures.value;
      kept = c.follow.ensures.puts;
    } in
    let items = c.in_ok-push.ensures.items in
    record {
      many = ap length items ∙ length-append c.loop-v.puts.items (c.follow.new.self ∷ []) ∙ ap (λ n. n + 1) i.many;
      puts =
          rows-push (λ u p. IsPutsOf model u (route lists u) p) no_puts c.loop-v.puts.items c.push.new.self.items c.follow.new.self v i.many i.puts new items;
    }
