use Rattle.std.proofs.Common.{◌≡◌, true, take}
use Rattle.std.specs.List.{list_all}
use Rattle.vr_model.specs.tables.ModelRules.{are_alike_in}
use Rattle.vr_read.proofs.alike.are_alike_in_all.Given as goal

abbrev pub invariant-loop-dimension : goal.invariant-loop-dimension
invariant-loop-dimension l = list_all (λ dimension. are_alike_in dimension l.v l.w) (take l.dimension-index l.dimensions) ≡ true
