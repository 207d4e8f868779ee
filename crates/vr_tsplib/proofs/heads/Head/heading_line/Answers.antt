use Rattle.std.proofs.Common.{sym, ap, ◌∙◌}
use Rattle.std.specs.Option.{ok_or}
use Rattle.vr_tsplib.specs.declared.flaws.Flaw.TheVariants.{FaultyLine}
use Rattle.vr_tsplib.specs.Heads.{heading_line}
use Rattle.vr_tsplib.proofs.Chains.{goes}
use Rattle.vr_tsplib.proofs.heads.Head.heading_line.Goals as goal

pub returns : goal.returns
unfolding heading_line
returns c =
    c.begin.ensures
    ∙ sym (goes _ (sym c.in_ok-word.ensures) ∙ goes _ (ap (λ o. ok_or o FaultyLine) (sym c.meaning.ensures) ∙ sym c.in_ok-heading.ensures.value))
