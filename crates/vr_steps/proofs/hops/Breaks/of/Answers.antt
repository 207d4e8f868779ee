use Rattle.std.proofs.Common.{◌≤◌, length, sym, subst, rules}
use Rattle.std.specs.Prelude.{All}
use Rattle.vr_model.specs.tables.WellFormed.{IsBreak}
use Rattle.vr_steps.proofs.LineLemmas.{few_breaks_of}
use Rattle.vr_steps.proofs.hops.Breaks.of.Goals as goal

pub unwrap-requires : goal.unwrap-requires
unwrap-requires c =
    let few = few_breaks_of c.args.v c.args.dimension.now.breaks c.requires in
    let long : length c.breaks_of.result.now ≤ 8 = subst (λ rows. length rows ≤ 8) (sym c.breaks_of.ensures) few.1 in
    search rules

pub returns-clause-valid : goal.returns-clause-valid
returns-clause-valid c =
    let few = few_breaks_of c.args.v c.args.dimension.now.breaks c.requires in
    let valid : All IsBreak c.breaks_of.result.now = subst (All IsBreak) (sym c.breaks_of.ensures) few.0 in
    search rules
