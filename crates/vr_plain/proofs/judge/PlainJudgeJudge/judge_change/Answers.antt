use Rattle.std.proofs.Common.{◌≡◌, ◌∙◌, length, rules, sym, ap}
use Rattle.vr_model.specs.moves.Moves.{apply}
use Rattle.vr_model.specs.tables.Tables.{visits}
use Rattle.vr_plain.proofs.RebuiltLemmas.{are_lists_after, count_after, stays_committed, valid_count}
use Rattle.vr_plain.proofs.judge.PlainJudgeJudge.judge_change.Given.{Over}
use Rattle.vr_plain.proofs.judge.PlainJudgeJudge.judge_change.Goals.{After-rebuild}
use Rattle.vr_plain.proofs.judge.PlainJudgeJudge.judge_change.Goals as goal

-- the scratch has the lists after the move, of the same visits, one for each vehicle
rebuilt : (g : Over) (c : After-rebuild g) → c.rebuild.new.scratch.lists ≡ apply c.args.self.now.rules c.args.routes.now.lists c.args._mv
rebuilt g c = ap (λ r. r.lists) c.rebuild.ensures ∙ c.requires.change.lists_are

of_model : (g : Over) (c : After-rebuild g) → c.rebuild.new.scratch.visits ≡ visits c.args.self.now.rules
of_model g c = ap (λ r. r.visits) c.rebuild.ensures ∙ c.requires.holds.of_model

for_all : (g : Over) (c : After-rebuild g) → length c.rebuild.new.scratch.lists ≡ length c.args.self.now.rules.vehicles
for_all g c = count_after c.args.self.now.rules c.args.routes.now.lists c.args._mv
    c.requires.well_formed c.requires.holds.valid c.requires.mv c.rebuild.new.scratch.lists (rebuilt g c)

pub rebuild-requires-clause-same_visits : goal.rebuild-requires-clause-same_visits
rebuild-requires-clause-same_visits g c = c.requires.holds.committed.scratch_of_model ∙ sym c.requires.holds.of_model

pub rebuild-requires-clause-as_many : goal.rebuild-requires-clause-as_many
rebuild-requires-clause-as_many g c = c.requires.holds.committed.scratch_for_all
    ∙ sym (valid_count c.args.self.now.rules c.args.routes.now.lists c.requires.holds.valid)

pub valid-requires : goal.valid-requires
valid-requires g c = record {
  lists = are_lists_after c.args.self.now.rules c.args.routes.now.lists c.args._mv
      c.requires.well_formed c.requires.holds.valid c.requires.mv c.rebuild.new.scratch.lists
      (rebuilt g (goal.at.valid-requires g c).After-rebuild);
}

pub returns-in_err-valid-clause-committed : goal.returns-in_err-valid-clause-committed
returns-in_err-valid-clause-committed g c =
    let here = (goal.at.returns-in_err-valid-clause-committed g c).After-rebuild in
    stays_committed c.requires.holds.committed (search rules) (of_model g here) (for_all g here)

pub returns-then-not-branch-clause-committed : goal.returns-then-not-branch-clause-committed
returns-then-not-branch-clause-committed g c =
    let here = (goal.at.returns-then-not-branch-clause-committed g c).After-rebuild in
    stays_committed c.requires.holds.committed (search rules) (of_model g here) (for_all g here)

pub returns-in_err-total-clause-committed : goal.returns-in_err-total-clause-committed
returns-in_err-total-clause-committed g c =
    let here = (goal.at.returns-in_err-total-clause-committed g c).After-rebuild in
    stays_committed c.requires.holds.committed (search rules) (of_model g here) (for_all g here)

pub returns-clause-committed : goal.returns-clause-committed
returns-clause-committed g c =
    let here = (goal.at.returns-clause-committed g c).After-rebuild in
    stays_committed c.requires.holds.committed (search rules) (of_model g here) (for_all g here)
