use Rattle.vr_usecosts.proofs.GroupLemmas.{are-few}
use Rattle.vr_usecosts.proofs.groups.GroupCost.open.Goals as goal

pub most_saved-most-requires : goal.most_saved-most-requires
most_saved-most-requires c = record { few = are-few c.args.model.now c.requires.well_formed c.in_ok-saved.saved c.in_ok-saved.ensures }
