use Rattle.std.proofs.Common.{◌≡◌, drop}
use Rattle.std.specs.Prelude.{fold}
use Rattle.vr_strings.specs.Strings.{cut_at_visit}
use Rattle.vr_ruin.specs.Cuttings.{ruined_of}
use Rattle.vr_ruin.proofs.cutting.cut_routes.Given as goal

-- the visits that are left make what all make
abbrev pub invariant-loop-visit : goal.invariant-loop-visit
invariant-loop-visit l = record {
  model : l.trial.model ≡ l.fn.trial.model;
  left : fold (cut_at_visit l.fn.trial.model l.size.longest l.size.count) (ruined_of l.trial.lists l.cut.items l.words) (drop l.visit-index l.around)
      ≡ fold (cut_at_visit l.fn.trial.model l.size.longest l.size.count) (ruined_of l.initial.trial.lists l.initial.cut.items l.initial.words) l.around;
}
