use Rattle.std.proofs.Common.{sym, ap, ◌∙◌}
use Rattle.std.specs.Option.{ok_or}
use Rattle.vr_tsplib.specs.declared.flaws.Flaw.TheVariants.{FaultyLine}
use Rattle.vr_tsplib.specs.Heads.{keyword_parts}
use Rattle.vr_tsplib.proofs.Chains.{goes}
use Rattle.vr_tsplib.proofs.heads.Head.keyword_parts.Goals as goal

pub returns : goal.returns
unfolding keyword_parts
returns c =
    c.keep.ensures
    ∙ sym (goes _ (sym c.in_ok-word.ensures) ∙ goes _ (ap (λ o. ok_or o FaultyLine) (sym c.meaning.ensures) ∙ sym c.in_ok-keyword.ensures.value))
