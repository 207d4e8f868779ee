use Rattle.std.proofs.Common.{◌≡◌, map, take}
use Rattle.std.specs.Prelude.{filter}
use Rattle.vr_model.specs.routes.Routes.{holds}
use Rattle.vr_check.specs.Terms.{places_of}
use Rattle.vr_check.proofs.pairs.places_in.Given as goal

abbrev pub invariant-loop-pair : goal.invariant-loop-pair
invariant-loop-pair l = l.places ≡ map (places_of l.list) (filter (λ pair. holds l.list pair.pickup) (take l.pair-index l.model.pairs))
