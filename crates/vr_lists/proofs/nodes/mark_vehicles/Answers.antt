use Rattle.std.proofs.Common.{length, subst, true}
use Rattle.vr_lists.specs.Nodes.{AreWritten}
use Rattle.vr_lists.proofs.NodeLemmas.{marks_written}
use Rattle.vr_lists.proofs.nodes.mark_vehicles.Goals as goal

pub returns : goal.returns
returns c =
    let marks = c.args.marks.now in
    let after = c.write_each.new.values in
    marks_written (length marks) c.args.row.now.vehicles marks after c.requires.within c.requires.none c.write_each.ensures.count
    (subst (λ places. AreWritten marks places true after) c.as_slice.ensures c.write_each.ensures.each)
