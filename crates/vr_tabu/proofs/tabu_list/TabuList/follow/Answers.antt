use Rattle.std.proofs.Common.{◌≡◌, ◌∙◌, ◌<◌, ◌≤◌, ◌+◌, ℕ, suc, cond, length, ap, subst, sym, arith}
use Rattle.std.specs.Prelude.{All}
use Rattle.std.specs.List.{list_any}
use Rattle.vr_model.specs.routes.Routes.{route}
use Rattle.vr_model.specs.tables.Numbers.{from_to}
use Rattle.vr_model.proofs.tables.Ranges.{first_left, none_left}
use Rattle.vr_routes.specs.Pieces.{changed, joined, part_at}
use Rattle.vr_tabu.specs.Changed.{is_changed}
use Rattle.vr_tabu.specs.Parts.{OldAndNew, change_of, changes}
use Rattle.vr_tabu.specs.Tabus.{until_at}
use Rattle.vr_tabu.proofs.ChangedLemmas.{changed_by_parts}
use Rattle.vr_tabu.proofs.ForbidLemmas.{part_step}
use Rattle.vr_tabu.proofs.PartFacts.{new_below, new_below_room, old_below}
use Rattle.vr_tabu.proofs.tabu_list.TabuList.follow.Goals as goal

pub write-requires-clause-visits : goal.write-requires-clause-visits
write-requires-clause-visits c =
    new_below_room c.args.lists.closed.model.now c.args.lists.routes.now.lists c.args.lists.change.now c.requires.made.makes.parts_are
    c.args.lists.before c.args.lists.after c.args.lists.closed.well_formed c.loop-k.k (omega (arith, c.loop-k-test.true, c.parts-k-end.ensures.value))

pub forbid-requires-clause-old_visits : goal.forbid-requires-clause-old_visits
forbid-requires-clause-old_visits c =
    let lists = c.args.lists.routes.now.lists in
    let room : length c.loop-k.self.until.items ≡ c.args.lists.closed.model.now.nodes = c.loop-k.invariant.covers ∙ c.requires.covers in
    subst (λ (list : OldAndNew). All (λ visit. visit < length c.loop-k.self.until.items) list.old) (sym c.list_change-list.ensures)
    (subst (λ n. All (λ visit. visit < n) (route lists (part_at c.args.lists.change.now c.loop-k.k).vehicle)) (sym room)
    (old_below c.args.lists.closed.model.now lists c.args.lists.change.now c.requires.made.makes.parts_are
    c.args.lists.before c.args.lists.after c.args.lists.closed.well_formed c.loop-k.k))

pub forbid-requires-clause-new_visits : goal.forbid-requires-clause-new_visits
forbid-requires-clause-new_visits c =
    let lists = c.args.lists.routes.now.lists in
    let low : c.loop-k.k < length c.args.lists.change.now = omega (arith, c.loop-k-test.true, c.parts-k-end.ensures.value) in
    let room : length c.loop-k.self.until.items ≡ c.args.lists.closed.model.now.nodes = c.loop-k.invariant.covers ∙ c.requires.covers in
    subst (λ (list : OldAndNew). All (λ visit. visit < length c.loop-k.self.until.items) list.new) (sym c.list_change-list.ensures)
    (subst (λ n. All (λ visit. visit < n) (joined lists (part_at c.args.lists.change.now c.loop-k.k).pieces)) (sym room)
    (new_below c.args.lists.closed.model.now lists c.args.lists.change.now c.requires.made.makes.parts_are
    c.args.lists.before c.args.lists.after c.args.lists.closed.well_formed c.loop-k.k low))

pub loop-k-preserved : goal.loop-k-preserved
loop-k-preserved c =
    let low : c.loop-k.k < length c.args.lists.change.now = omega (arith, c.loop-k-test.true, c.parts-k-end.ensures.value) in
    let model = c.args.lists.closed.model.now in
    let lists = c.args.lists.routes.now.lists in
    let parts = c.args.lists.change.now in
    let k = c.loop-k.k in
    let seen = c.list_change-list.ensures in
    let until = (c.args.self.now.round + 1) + c.args.tenure in
    record {
      round = c.forbid.ensures.round ∙ c.loop-k.invariant.round;
      covers = c.forbid.ensures.covers ∙ c.loop-k.invariant.covers;
      left = λ visit.
          ap (λ now. cond (list_any (λ j. changes (change_of model lists parts j) visit) (from_to (k + 1) (length parts))) until now)
          (c.forbid.ensures.until visit)
          ∙ (ap (λ list. cond (list_any (λ j. changes (change_of model lists parts j) visit) (from_to (k + 1) (length parts)))
          until (cond (changes list visit) until (until_at c.loop-k.self visit))) seen
          ∙ (part_step (changes (change_of model lists parts k) visit)
          (list_any (λ j. changes (change_of model lists parts j) visit) (from_to (k + 1) (length parts))) until (until_at c.loop-k.self visit)
          ∙ (sym (first_left k (length parts) low
          (λ ks. cond (list_any (λ j. changes (change_of model lists parts j) visit) ks) until (until_at c.loop-k.self visit)))
          ∙ c.loop-k.invariant.left visit)));
    }

pub returns-clause-next : goal.returns-clause-next
returns-clause-next c =
    let model = c.args.lists.closed.model.now in
    let lists = c.args.lists.routes.now.lists in
    let parts = c.args.lists.change.now in
    let k = c.loop-k.k in
    let high : length parts ≤ k = omega (arith, c.loop-k-test.false, c.parts-k-end.ensures.value) in
    let first = c.args.self.now.round in
    let until = (first + 1) + c.args.tenure in
    let same : until ≡ suc first + c.args.tenure = omega arith in
    let rounds : c.loop-k.self.round + 1 ≡ suc first = omega (arith, c.loop-k.invariant.round) in
    let each : (visit : ℕ) → until_at c.loop-k.self visit
    ≡ cond (is_changed model lists (changed lists parts) visit) (suc first + c.args.tenure) (until_at c.args.self.now visit) = λ visit.
    sym (ap (λ ks. cond (list_any (λ j. changes (change_of model lists parts j) visit) ks) until (until_at c.loop-k.self visit))
    (none_left k (length parts) high))
    ∙ (c.loop-k.invariant.left visit
    ∙ (ap (λ b. cond b until (until_at c.args.self.now visit)) (changed_by_parts model lists parts c.requires.made.makes.parts_are visit)
    ∙ ap (λ x. cond (is_changed model lists (changed lists parts) visit) x (until_at c.args.self.now visit)) same)) in
    λ i. record { round = rounds i; until = λ visit. each visit i }
