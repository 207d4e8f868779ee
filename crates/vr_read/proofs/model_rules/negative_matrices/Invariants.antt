use Rattle.std.proofs.Common.{◌≡◌, map, take}
use Rattle.std.specs.List.{list_any}
use Rattle.vr_model.specs.tables.ModelRules.{is_negative}
use Rattle.vr_read.proofs.model_rules.negative_matrices.Given as goal

abbrev pub invariant-loop-matrix : goal.invariant-loop-matrix
invariant-loop-matrix l = l.marks ≡ map (λ matrix. list_any is_negative matrix.entries) (take l.matrix-index l.matrices)
