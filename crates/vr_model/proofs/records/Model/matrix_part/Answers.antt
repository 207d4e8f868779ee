use Rattle.std.proofs.Common.{ℕ, ◌+◌, ◌*◌, ◌<◌, length, subst, sym, arith}
use Rattle.std.specs.Prelude.{pos}
use Rattle.std.proofs.lemmas.Int.{ints}
use Rattle.vr_model.specs.tables.Numbers.{number_at}
use Rattle.vr_model.specs.tables.Tables.{no_matrix}
use Rattle.vr_model.specs.tables.Limits.{least_value, greatest_cost}
use Rattle.vr_model.specs.tables.WellFormed.{IsIn, IsMatrix, WherePresent}
use Rattle.vr_model.specs.declared.records.Matrix.{Matrix}
use Rattle.vr_model.proofs.tables.Bounds.{place_low}
use Rattle.vr_model.proofs.records.Model.matrix_part.Goals as goal

-- an entry of a matrix is in range
entry_in_range : (n : ℕ) (matrix : Matrix) → IsMatrix n matrix → (i j : ℕ) → i < n
    → j < n → IsIn least_value greatest_cost (number_at matrix.entries (i * n + j))
entry_in_range n matrix is i j low next = is.entries_in_range (i * n + j) (pos 0) (subst (λ k. i * n + j < k) (sym is.square) (place_low n i j low next))

pub returns-in-Some-clause-in_range : goal.returns-in-Some-clause-in_range
returns-in-Some-clause-in_range c =
    let n = c.args.self.now.nodes in
    let known = subst (WherePresent (λ m. m < length c.args.self.now.matrices)) c.in-Some.is c.requires.matrix in
    let is = subst (IsMatrix n) (c.get.ensures.value no_matrix) (c.requires.matrices c.in-Some.m no_matrix known) in
    let value = c.entry.ensures in
    let r = entry_in_range n c.get.result.now is c.args.i c.args.j c.requires.origin c.requires.target in
    record { at_least = omega (arith, ints, value, r.at_least, r.at_most); at_most = omega (arith, ints, value, r.at_least, r.at_most) }
