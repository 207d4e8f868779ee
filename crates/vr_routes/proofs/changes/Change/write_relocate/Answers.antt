use Rattle.std.proofs.Common.{ℕ, List, ap, subst, arith}
use Rattle.std.specs.Prelude.{insert, remove}
use Rattle.vr_model.specs.routes.Routes.{route}
use Rattle.vr_model.specs.moves.Moves.{with_route}
use Rattle.vr_model.specs.declared.neighbours.Move.TheVariants.{Relocate}
use Rattle.vr_routes.specs.Changes.{IsAfter}
use Rattle.vr_routes.proofs.PieceLemmas.{removed_is, inserted_is}
use Rattle.vr_routes.proofs.ChangeLemmas.{two_parts}
use Rattle.vr_routes.proofs.DifferLemmas.{removed_differs, inserted_differs}
use Rattle.vr_routes.proofs.changes.Change.write_relocate.Goals as goal

pub take_out-requires : goal.take_out-requires
take_out-requires c = record { vehicle = c.requires.vehicle; within = omega (arith, c.requires.place) }

pub put-requires : goal.put-requires
put-requires c = record { vehicle = c.requires.other; within = omega (arith, c.requires.gap) }

pub returns : goal.returns
returns c model =
    let lists : List (List ℕ) = c.args.routes.now.lists in
    let test = c.requires in
    two_parts model lists (Relocate c.args.v c.args.a c.args.w c.args.t) _ _ c.args.v c.args.w _ _
    test.vehicle test.other test.apart
    (subst (IsAfter lists c.take_out.new.self c.args.v) (removed_is (route lists c.args.v) c.args.a) c.take_out.ensures)
    (subst (IsAfter lists c.put.new.self c.args.w) (inserted_is (route lists c.args.w) c.args.t c.node_at.result) c.put.ensures)
    (ap (λ node. with_route (with_route lists c.args.v (remove (route lists c.args.v) c.args.a)) c.args.w (insert (route lists c.args.w) c.args.t node))
    c.node_at.ensures)
    (λ are. removed_differs (route lists c.args.v) c.args.a test.place)
    (λ are. inserted_differs (route lists c.args.w) c.args.t c.node_at.result)
