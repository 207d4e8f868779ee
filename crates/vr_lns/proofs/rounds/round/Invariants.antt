use Rattle.std.proofs.Common.{◌≡◌, ◌+◌, ◌≤◌, length}
use Rattle.vr_model.specs.tables.Numbers.{each, from_to}
use Rattle.vr_model.specs.routes.Routes.{route}
use Rattle.vr_lns.specs.Cuts.{accepted_by, cuts_of}
use Rattle.vr_lns.specs.Rounds.{round, round_from}
use Rattle.vr_lns.specs.Standing.{HoldValid}
use Rattle.vr_lns.proofs.rounds.round.Given as goal

-- the round of the cuts of the lists that are left, behind those tried, is that of all cuts
abbrev pub invariant-loop-v : goal.invariant-loop-v
invariant-loop-v g l = record {
  cutter : l.cutting ≡ l.fn.cutting;
  lists : l.routes.lists ≡ l.fn.routes.lists;
  holds : HoldValid l.fn.cutting.model l.routes l.total;
  knows : g.R.Rebuild.knows l.rebuild l.fn.cutting.model;
  within : l.tried ≤ l.rest;
  made : g.R.Rebuild.made l.rebuild ≤ g.R.Rebuild.made l.fn.rebuild + l.tried;
  left : round_from l.tried (accepted_by l.fn.cutting.model l.fn.cutting.most l.fn.routes.lists)
      l.rest (each (from_to l.v (length l.fn.routes.lists)) λ v. cuts_of v (route l.fn.routes.lists v))
      ≡ round l.fn.cutting.model l.fn.cutting.most l.fn.routes.lists l.rest;
}
