use Rattle.std.proofs.Common.{◌≡◌, ◌+◌, ◌≤◌, length, map}
use Rattle.vr_model.specs.tables.Numbers.{from_to}
use Rattle.vr_model.specs.routes.Routes.{route}
use Rattle.vr_lns.specs.Cuts.{accepted_by, cuts_of}
use Rattle.vr_lns.specs.Rounds.{round_from}
use Rattle.vr_lns.specs.Standing.{HoldValid}
use Rattle.vr_lns.proofs.RoundLemmas.{cut_at}
use Rattle.vr_lns.proofs.rounds.cut_list.Given as goal

-- the round of the cuts that are left, behind those tried, is that of all cuts of the list
abbrev pub invariant-loop-a : goal.invariant-loop-a
invariant-loop-a g l = record {
  cutter : l.cutting ≡ l.fn.cutting;
  lists : l.routes.lists ≡ l.fn.routes.lists;
  holds : HoldValid l.fn.cutting.model l.routes l.total;
  knows : g.R.Rebuild.knows l.rebuild l.fn.cutting.model;
  within : l.place ≤ l.rest;
  made : g.R.Rebuild.made l.rebuild + l.tried ≤ g.R.Rebuild.made l.fn.rebuild + l.place;
  left : round_from l.place (accepted_by l.fn.cutting.model l.fn.cutting.most l.fn.routes.lists)
      l.rest (map (cut_at l.v) (from_to l.a (length (route l.fn.routes.lists l.v))))
      ≡ round_from l.tried (accepted_by l.fn.cutting.model l.fn.cutting.most l.fn.routes.lists) l.rest (cuts_of l.v (route l.fn.routes.lists l.v));
}
