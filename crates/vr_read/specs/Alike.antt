-- Vehicles that are alike, vehicle by vehicle: the form in which the code compares them.
use Rattle.std.specs.Prelude.{ℕ, Bool, not, List, length}
use Rattle.std.specs.List.{list_all, list_any}
use Rattle.vr_model.specs.tables.Numbers.{below}
use Rattle.vr_model.specs.tables.ModelRules.{are_alike, are_alike_in}
use Rattle.vr_model.specs.declared.records.Model.{Model}
use Rattle.vr_model.specs.declared.records.Dimension.{Dimension}

-- vehicles v and w are alike in each dimension
abbrev pub are_alike_in_all : List Dimension → ℕ → ℕ → Bool
are_alike_in_all dimensions v w = list_all (λ dimension. are_alike_in dimension v w) dimensions

-- some vehicle is not like vehicle v
abbrev pub differs_from_some : Model → ℕ → Bool
differs_from_some model v = list_any (λ w. not (are_alike model v w)) (below (length model.vehicles))
