use Rattle.std.proofs.Common.{◌≡◌, ◌∙◌, sym, ap, ap₂, subst, arith, w64, to_z, of_z}
use Rattle.std.proofs.lemmas.Int.{ints}
use Rattle.vr_model.specs.moves.Moves.{apply}
use Rattle.vr_model.specs.routes.Costs.{cost}
use Rattle.vr_model.specs.routes.Rules.{is_valid}
use Rattle.vr_routes.specs.Tours.{Tours}
use Rattle.vr_plain.specs.Committed.{AreCommitted}
use Rattle.vr_model.proofs.tables.Refusals.{on_err}
use Rattle.vr_plain.proofs.RebuiltLemmas.{count_after, stays_committed, valid_count}
use Rattle.vr_plain.proofs.judge.PlainJudgeJudge.commit_change.Goals.{After-rebuild}
use Rattle.vr_plain.proofs.judge.PlainJudgeJudge.commit_change.Goals as goal

-- the scratch has the lists after the move
rebuilt : (c : After-rebuild) → c.rebuild.new.scratch.lists ≡ apply c.args.self.now.rules c.args.routes.now.lists c.args._mv
rebuilt c = ap (λ r. r.lists) c.rebuild.ensures ∙ c.requires.change.lists_are

pub rebuild-requires-clause-same_visits : goal.rebuild-requires-clause-same_visits
rebuild-requires-clause-same_visits c = c.requires.holds.committed.scratch_of_model ∙ sym c.requires.holds.of_model

pub rebuild-requires-clause-as_many : goal.rebuild-requires-clause-as_many
rebuild-requires-clause-as_many c = c.requires.holds.committed.scratch_for_all
    ∙ sym (valid_count c.args.self.now.rules c.args.routes.now.lists c.requires.holds.valid)

pub total-requires : goal.total-requires
total-requires c = record { valid = ap (is_valid c.args.self.now.rules) (rebuilt (goal.at.total-requires c).After-rebuild) ∙ c.requires.valid }

pub returns-in_err-total-clause-committed_stay : goal.returns-in_err-total-clause-committed_stay
returns-in_err-total-clause-committed_stay c =
    let after = rebuilt (goal.at.returns-in_err-total-clause-committed_stay c).After-rebuild in
    on_err c.from_residual.result
    (stays_committed c.requires.holds.committed c.in_err-total.ensures.model (ap (λ r. r.visits) c.rebuild.ensures ∙ c.requires.holds.of_model)
    (count_after c.args.self.now.rules c.args.routes.now.lists c.args._mv c.requires.well_formed
    c.requires.holds.valid c.requires.mv c.rebuild.new.scratch.lists after))

pub returns-clause-committed : goal.returns-clause-committed
returns-clause-committed c =
    let model = c.args.self.now.rules in
    let after = rebuilt (goal.at.returns-clause-committed c).After-rebuild in
    let now : c.commit.new.self.lists ≡ c.rebuild.new.scratch.lists = c.commit.ensures.lists ∙ sym (ap (λ r. r.lists) c.rebuild.ensures) in
    let value : c.in_ok-total.total ≡ cost model c.rebuild.new.scratch.lists = c.in_ok-total.ensures.value in
    let same : to_z w64 (of_z w64 c.in_ok-total.total) ≡ c.in_ok-total.total = omega (arith, ints) in
    let kept : AreCommitted model c.commit.new.self c.rebuild.new.scratch (to_z w64 (of_z w64 c.in_ok-total.total)) = record {
      of_model = c.commit.ensures.visits ∙ c.requires.holds.committed.of_model;
      scratch_of_model = ap (λ r. r.visits) c.rebuild.ensures ∙ c.requires.holds.of_model;
      scratch_for_all =
          count_after model c.args.routes.now.lists c.args._mv c.requires.well_formed c.requires.holds.valid c.requires.mv c.rebuild.new.scratch.lists after;
      costs = same ∙ (value ∙ ap (cost model) (sym now));
      least = omega (arith, ints, same, c.in_ok-total.ensures.least);
    } in
    subst (λ m. AreCommitted m c.commit.new.self c.rebuild.new.scratch (to_z w64 (of_z w64 c.in_ok-total.total))) (sym c.in_ok-total.ensures.model) kept

pub returns-clause-routes : goal.returns-clause-routes
returns-clause-routes c =
    ap₂ {C = Tours} (λ vs ls. record { visits = vs; lists = ls }) c.commit.ensures.visits (c.commit.ensures.lists ∙ c.requires.change.lists_are)
