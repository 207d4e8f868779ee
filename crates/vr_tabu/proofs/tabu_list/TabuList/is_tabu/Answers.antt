use Rattle.std.proofs.Common.{◌≡◌, ◌∙◌, ◌≤◌, Bool, length, ap, sym, true, false, arith}
use Rattle.vr_model.proofs.tables.Ranges.{test_ends, test_finds, test_goes_on}
use Rattle.vr_tabu.specs.Parts.{change_of, frees}
use Rattle.vr_tabu.specs.Tabus.{tabus_of}
use Rattle.vr_tabu.proofs.PartFacts.{free_found, new_below_room, none_found}
use Rattle.vr_tabu.proofs.tabu_list.TabuList.is_tabu.Goals.{After-frees}
use Rattle.vr_tabu.proofs.tabu_list.TabuList.is_tabu.Goals as goal

-- whether the list of this part frees
freed : (c : After-frees) (b : Bool) → c.frees.result ≡ b
    → frees (tabus_of c.args.self.now) (change_of c.args.lists.closed.model.now c.args.lists.routes.now.lists c.args.lists.change.now c.loop-k.k) ≡ b
freed c b is = ap (frees (tabus_of c.args.self.now)) (sym c.list_change-list.ensures) ∙ (sym c.frees.ensures ∙ is)

pub write-requires-clause-visits : goal.write-requires-clause-visits
write-requires-clause-visits c =
    new_below_room c.args.lists.closed.model.now c.args.lists.routes.now.lists c.args.lists.change.now c.requires.made.makes.parts_are
    c.args.lists.before c.args.lists.after c.args.lists.closed.well_formed c.loop-k.k (omega (arith, c.loop-k-test.true, c.parts-k-end.ensures.value))

pub returns-then-frees : goal.returns-then-frees
returns-then-frees c =
    free_found c.args.lists.closed.model.now c.args.lists.routes.now.lists c.args.lists.change.now c.requires.made.makes.parts_are
    c.args.lists.before c.args.lists.after c.args.lists.closed.well_formed (tabus_of c.args.self.now)
    (test_finds (λ j. frees (tabus_of c.args.self.now) (change_of c.args.lists.closed.model.now c.args.lists.routes.now.lists c.args.lists.change.now j))
    (length c.args.lists.change.now) c.loop-k.k c.loop-k.invariant.left (omega (arith, c.loop-k-test.true, c.parts-k-end.ensures.value))
    (freed (goal.at.returns-then-frees c).After-frees true c.if-frees.true))

pub loop-k-preserved : goal.loop-k-preserved
loop-k-preserved c =
    record {
      left = test_goes_on
          (λ j. frees (tabus_of c.args.self.now) (change_of c.args.lists.closed.model.now c.args.lists.routes.now.lists c.args.lists.change.now j))
          (length c.args.lists.change.now) c.loop-k.k c.loop-k.invariant.left (omega (arith, c.loop-k-test.true, c.parts-k-end.ensures.value))
          (freed (goal.at.loop-k-preserved c).After-frees false c.if-frees.false);
    }

pub returns : goal.returns
returns c =
    let high : length c.args.lists.change.now ≤ c.loop-k.k = omega (arith, c.loop-k-test.false, c.parts-k-end.ensures.value) in
    let model = c.args.lists.closed.model.now in
    let lists = c.args.lists.routes.now.lists in
    let parts = c.args.lists.change.now in
    let tabus = tabus_of c.args.self.now in
    none_found model lists parts c.requires.made.makes.parts_are c.args.lists.before c.args.lists.after c.args.lists.closed.well_formed tabus
    (test_ends (λ j. frees tabus (change_of model lists parts j)) (length parts) c.loop-k.k c.loop-k.invariant.left high)
