-- Rows that are kept of lists.
use Rattle.std.proofs.Common.{◌≡◌, ◌∙◌, ◌<◌, ℕ, List, ap, sym, subst, arith, length, get_or, set, inl, inr}
use Rattle.std.proofs.lemmas.Bool.Decides.{eqb_tells}
use Rattle.std.proofs.lemmas.List.{get_or-set_same, get_or-set_other, get_or_default, length-set}
use Rattle.vr_model.specs.moves.Moves.{with_route}
use Rattle.vr_model.specs.routes.Routes.{route}
use Rattle.vr_model.proofs.routes.Lists.{route_set_same, route_set_other}
use Rattle.vr_model.specs.declared.records.Model.{Model}
use Rattle.vr_reach.specs.Rows.{BothWays}
use Rattle.vr_reach.specs.KnownRows.{AreRowsIfUsed}
use Rattle.vr_reach.specs.Stretches.{SharesFront}
use Rattle.vr_reach.proofs.StandingLemmas.{reached_in}
use Rattle.vr_first_insert.specs.declared.list_rows.ListRows.{ListRows}
use Rattle.vr_first_insert.specs.declared.probes.Probes.{Probes}
use Rattle.vr_first_insert.specs.KeptRows.{AreKeptRows, AreKeptOf, AreKeptRowsIn, IsKeptOf}
use Rattle.vr_first_insert.specs.Probes.{AreReachedAt}

-- the list that code reads at a place
pub list_at : (lists : List (List ℕ)) (v : ℕ) (list read : List ℕ) → list ≡ read → read ≡ get_or lists v read → v < length lists → list ≡ route lists v
list_at lists v list read same is low = same ∙ is ∙ get_or_default lists v read _ low

-- what is kept in one dimension, as code reads it
pub kept_at : (model : Model) (v : ℕ) (list : List ℕ) (list_rows : List ListRows) → AreKeptOf model v list list_rows
    → (d : ℕ) (kept : ListRows) → kept ≡ get_or list_rows d kept → d < length list_rows → IsKeptOf model d v list kept
kept_at model v list list_rows are d kept is low = subst (IsKeptOf model d v list) (sym is) (are.each d kept low)

-- the rows of the list, as code reads them
pub rows_at : (model : Model) (d v : ℕ) (list : List ℕ) (kept : ListRows) → IsKeptOf model d v list kept
    → (rows : BothWays) → rows ≡ get_or kept.rows.items v rows → AreRowsIfUsed model d v list rows
rows_at model d v list kept is rows read = subst (AreRowsIfUsed model d v list) (sym read) (is.rows_of_list rows)

-- what is kept of all lists is kept of each
pub kept_of : (model : Model) (lists : List (List ℕ)) (list_rows : List ListRows)
    → AreKeptRows model lists list_rows → (v : ℕ) → v < length lists → AreKeptOf model v (route lists v) list_rows
kept_of model lists list_rows are v low = record {
  one_of_each = are.one_of_each;
  each = λ d other d_low.
      let kept = are.each d other d_low in
      let many = kept.many in
      record { there = omega (arith, low, many); rows_of_list = λ rows. kept.rows_of_each v rows (omega (arith, low, many)) };
}

-- the rows of one list were written over those of another
pub kept_again : (model : Model) (d : ℕ) (lists : List (List ℕ)) (v : ℕ) (list : List ℕ) (before after : ListRows) (rows : BothWays)
    → after.rows.items ≡ set before.rows.items v rows
    → v < length lists → AreRowsIfUsed model d v list rows → AreKeptRowsIn model d lists before → AreKeptRowsIn model d (with_route lists v list) after
kept_again model d lists v list before after rows written there new kept = record {
  many = ap length written ∙ length-set before.rows.items v rows ∙ kept.many ∙ sym (length-set lists v list);
  rows_of_each = λ w other low.
      subst (λ all. AreRowsIfUsed model d w (route (with_route lists v list) w) (get_or all w other)) (sym written) (elim (eqb_tells w v) [
        | inl at ↦ subst (λ u. AreRowsIfUsed model d u (route (with_route lists v list) u) (get_or (set before.rows.items v rows) u other)) (sym at.1)
            (subst (AreRowsIfUsed model d v (route (with_route lists v list) v))
            (sym (get_or-set_same before.rows.items v rows other (let m = kept.many in omega (arith, there, m))))
            (subst (λ l. AreRowsIfUsed model d v l rows) (sym (route_set_same lists v list there)) new))
        | inr apart ↦ subst (AreRowsIfUsed model d w (route (with_route lists v list) w)) (sym (get_or-set_other before.rows.items v w rows other apart.1))
            (subst (λ l. AreRowsIfUsed model d w l (get_or before.rows.items w other)) (sym (route_set_other lists v w list apart.1))
            (kept.rows_of_each w other (let n = ap length written ∙ length-set before.rows.items v rows in omega (arith, low, n))))
      ]);
}

-- a list that shares the nodes up to a stop reaches the same there, in each dimension
pub reached_in_each : (model : Model) (v : ℕ) (old new : List ℕ) (k : ℕ) (probes : Probes)
    → SharesFront old new k → AreReachedAt model v old k probes → AreReachedAt model v new k probes
reached_in_each model v old new k probes shares at = record {
  enough = at.enough;
  each = λ d other low. reached_in model d v old new k (get_or probes.here.items d other) shares (at.each d other low);
}
