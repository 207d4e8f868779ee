use Rattle.std.proofs.Common.{◌≡◌, subst, sym}
use Rattle.std.specs.Prelude.{IsTrue}
use Rattle.vr_model.specs.routes.Rules.{is_valid}
use Rattle.vr_model.specs.tables.Tables.{visits}
use Rattle.vr_judge.proofs.judge.FilterJudge.open.Goals as goal

pub over-requires-clause-of_model : goal.over-requires-clause-of_model
over-requires-clause-of_model c = subst (λ m. c.args.routes.now.visits ≡ visits m) (sym c.in_ok-lookups.ensures) c.requires.of_model

pub over-requires-clause-valid : goal.over-requires-clause-valid
over-requires-clause-valid c = subst (λ m. IsTrue (is_valid m c.args.routes.now.lists)) (sym c.in_ok-lookups.ensures) c.requires.valid
