use Rattle.std.proofs.Common.{ℕ, List, refl, sym, ap, subst, arith}
use Rattle.vr_model.specs.routes.Routes.{route}
use Rattle.vr_model.specs.moves.Moves.{with_route, with_pair}
use Rattle.vr_model.specs.declared.records.Pair.{Pair}
use Rattle.vr_routes.specs.Changes.{IsAfter}
use Rattle.vr_routes.proofs.PieceLemmas.{removed_is, inserted_is, replaced_is}
use Rattle.vr_routes.proofs.FactLemmas.{of_two_opt, of_or_opt, of_relocate, of_exchange, of_cross, of_make_inactive, of_make_active, of_swap_active}
use Rattle.vr_routes.proofs.FactLemmas.{of_pair_active}
use Rattle.vr_routes.proofs.ChangeLemmas.{one_part, read_as, change_as}
use Rattle.vr_routes.proofs.changes.Change.write.Goals as goal

pub reverse-requires : goal.reverse-requires
reverse-requires c = of_two_opt c.args.model.now c.args.routes.now.lists c.in-TwoOpt.v c.in-TwoOpt.a
    c.in-TwoOpt.b (read_as c.args.model.now c.args.routes.now.lists c.in-TwoOpt.is c.requires.is_one)

pub returns-in-TwoOpt : goal.returns-in-TwoOpt
returns-in-TwoOpt c =
    let is_one = read_as c.args.model.now c.args.routes.now.lists c.in-TwoOpt.is c.requires.is_one in
    change_as c.in-TwoOpt.is
    (one_part c.args.model.now c.args.routes.now.lists _ _ c.in-TwoOpt.v _
    (of_two_opt c.args.model.now c.args.routes.now.lists c.in-TwoOpt.v c.in-TwoOpt.a c.in-TwoOpt.b is_one).vehicle c.reverse.ensures refl is_one)

pub move_chain-requires : goal.move_chain-requires
move_chain-requires c =
    let facts = of_or_opt c.args.model.now c.args.routes.now.lists c.in-OrOpt.v c.in-OrOpt.a c.in-OrOpt.k
    c.in-OrOpt.t (read_as c.args.model.now c.args.routes.now.lists c.in-OrOpt.is c.requires.is_one) in
    record { chain = record { vehicle = facts.vehicle; within = facts.chain }; gap = facts.gap }

pub returns-in-OrOpt : goal.returns-in-OrOpt
returns-in-OrOpt c =
    let is_one = read_as c.args.model.now c.args.routes.now.lists c.in-OrOpt.is c.requires.is_one in
    change_as c.in-OrOpt.is
    (one_part c.args.model.now c.args.routes.now.lists _ _ c.in-OrOpt.v _
    (of_or_opt c.args.model.now c.args.routes.now.lists c.in-OrOpt.v c.in-OrOpt.a c.in-OrOpt.k c.in-OrOpt.t is_one).vehicle
    c.move_chain.ensures refl is_one)

pub write_relocate-requires : goal.write_relocate-requires
write_relocate-requires c = of_relocate c.args.model.now c.args.routes.now.lists c.in-Relocate.v c.in-Relocate.a
    c.in-Relocate.w c.in-Relocate.t (read_as c.args.model.now c.args.routes.now.lists c.in-Relocate.is c.requires.is_one)

pub returns-in-Relocate : goal.returns-in-Relocate
returns-in-Relocate c = change_as c.in-Relocate.is (c.write_relocate.ensures c.args.model.now)

pub write_exchange-requires : goal.write_exchange-requires
write_exchange-requires c = of_exchange c.args.model.now c.args.routes.now.lists c.in-Exchange.v c.in-Exchange.a
    c.in-Exchange.w c.in-Exchange.b (read_as c.args.model.now c.args.routes.now.lists c.in-Exchange.is c.requires.is_one)

pub returns-in-Exchange : goal.returns-in-Exchange
returns-in-Exchange c =
    change_as c.in-Exchange.is (c.write_exchange.ensures c.args.model.now (read_as c.args.model.now c.args.routes.now.lists c.in-Exchange.is c.requires.is_one))

pub write_cross-requires : goal.write_cross-requires
write_cross-requires c = of_cross c.args.model.now c.args.routes.now.lists c.in-Cross.v c.in-Cross.a
    c.in-Cross.w c.in-Cross.b (read_as c.args.model.now c.args.routes.now.lists c.in-Cross.is c.requires.is_one)

pub returns-in-Cross : goal.returns-in-Cross
returns-in-Cross c = change_as c.in-Cross.is (c.write_cross.ensures c.args.model.now)

pub take_out-requires : goal.take_out-requires
take_out-requires c =
    let facts = of_make_inactive c.args.model.now c.args.routes.now.lists c.in-MakeInactive.v c.in-MakeInactive.a
    (read_as c.args.model.now c.args.routes.now.lists c.in-MakeInactive.is c.requires.is_one) in
    record { vehicle = facts.vehicle; within = omega (arith, facts.place) }

pub returns-in-MakeInactive : goal.returns-in-MakeInactive
returns-in-MakeInactive c =
    let m = c.in-MakeInactive in
    let lists : List (List ℕ) = c.args.routes.now.lists in
    let is_one = read_as c.args.model.now c.args.routes.now.lists m.is c.requires.is_one in
    change_as m.is (one_part c.args.model.now lists _ _ m.v _ (of_make_inactive c.args.model.now lists c.in-MakeInactive.v c.in-MakeInactive.a is_one).vehicle
    (subst (IsAfter lists c.take_out.new.self m.v) (removed_is (route lists m.v) m.a) c.take_out.ensures) refl is_one)

pub put-requires : goal.put-requires
put-requires c =
    let facts = of_make_active c.args.model.now c.args.routes.now.lists c.in-MakeActive.u c.in-MakeActive.w
    c.in-MakeActive.t (read_as c.args.model.now c.args.routes.now.lists c.in-MakeActive.is c.requires.is_one) in
    record { vehicle = facts.vehicle; within = omega (arith, facts.gap) }

pub returns-in-MakeActive : goal.returns-in-MakeActive
returns-in-MakeActive c =
    let m = c.in-MakeActive in
    let lists : List (List ℕ) = c.args.routes.now.lists in
    let is_one = read_as c.args.model.now c.args.routes.now.lists m.is c.requires.is_one in
    change_as m.is
    (one_part c.args.model.now lists _ _ m.w _ (of_make_active c.args.model.now lists c.in-MakeActive.u c.in-MakeActive.w c.in-MakeActive.t is_one).vehicle
    (subst (IsAfter lists c.put.new.self m.w) (inserted_is (route lists m.w) m.t m.u) c.put.ensures) refl is_one)

pub put-requires-in-SwapActive : goal.put-requires-in-SwapActive
put-requires-in-SwapActive c =
    let facts = of_swap_active c.args.model.now c.args.routes.now.lists c.in-SwapActive.v c.in-SwapActive.a
    c.in-SwapActive.u (read_as c.args.model.now c.args.routes.now.lists c.in-SwapActive.is c.requires.is_one) in
    record { vehicle = facts.vehicle; within = omega (arith, facts.place) }

pub returns-in-SwapActive : goal.returns-in-SwapActive
returns-in-SwapActive c =
    let m = c.in-SwapActive in
    let lists : List (List ℕ) = c.args.routes.now.lists in
    let is_one = read_as c.args.model.now c.args.routes.now.lists m.is c.requires.is_one in
    let facts = of_swap_active c.args.model.now lists c.in-SwapActive.v c.in-SwapActive.a c.in-SwapActive.u is_one in
    change_as m.is (one_part c.args.model.now lists _ _ m.v _ facts.vehicle
    (subst (IsAfter lists c.put-in-SwapActive.new.self m.v) (replaced_is (route lists m.v) m.a m.u facts.place) c.put-in-SwapActive.ensures) refl is_one)

pub get-requires : goal.get-requires
get-requires c = (of_pair_active c.args.model.now c.args.routes.now.lists c.in-PairActive.p c.in-PairActive.w c.in-PairActive.s
    c.in-PairActive.t (read_as c.args.model.now c.args.routes.now.lists c.in-PairActive.is c.requires.is_one)).pair

pub put_pair-requires : goal.put_pair-requires
put_pair-requires c =
    let facts = of_pair_active c.args.model.now c.args.routes.now.lists c.in-PairActive.p c.in-PairActive.w c.in-PairActive.s
    c.in-PairActive.t (read_as c.args.model.now c.args.routes.now.lists c.in-PairActive.is c.requires.is_one) in
    record { vehicle = facts.vehicle; order = facts.order; gap = facts.gap }

pub returns-in-PairActive : goal.returns-in-PairActive
returns-in-PairActive c =
    let m = c.in-PairActive in
    let lists : List (List ℕ) = c.args.routes.now.lists in
    let is_one = read_as c.args.model.now c.args.routes.now.lists m.is c.requires.is_one in
    change_as m.is
    (one_part c.args.model.now lists _ _ m.w _
    (of_pair_active c.args.model.now lists c.in-PairActive.p c.in-PairActive.w c.in-PairActive.s c.in-PairActive.t is_one).vehicle c.put_pair.ensures
    (ap (λ (pair : Pair). with_route lists m.w (with_pair pair m.s m.t (route lists m.w)))
    (sym (c.get.ensures.value (record { pickup = 0; delivery = 0 })))) is_one)
