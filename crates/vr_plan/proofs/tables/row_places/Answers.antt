use Rattle.std.proofs.Common.{◌≡◌, ◌∙◌, ◌<◌, ℕ, List, length, sym, subst}
use Rattle.std.specs.Prelude.{All, IsTrue}
use Rattle.vr_model.specs.tables.Tables.{is_visit, no_dimension}
use Rattle.vr_plan.proofs.TableLemmas.{keys_below}
use Rattle.vr_plan.proofs.tables.row_places.Goals as goal

pub write_places-requires-clause-numbers : goal.write_places-requires-clause-numbers
write_places-requires-clause-numbers c =
    let model = c.args.closed.model.now in
    let is = c.args.closed.well_formed.each_dimension c.args.d no_dimension c.requires.dimension in
    let visits = subst (λ x. All (λ row. IsTrue (is_visit model row.key)) x.nodes) (c.get.ensures.value no_dimension) is.rows_of_visits.each_key_is_visit in
    let long : length c.deref_mut.result.now ≡ model.nodes = c.deref_mut.ensures.len ∙ c.in_ok-resize.ensures.len in
    subst (λ (n : ℕ). All (λ node. node < n) c.deref.result.now) (sym long)
    (subst (λ (keys : List ℕ). All (λ node. node < model.nodes) keys)
    (sym (c.deref.ensures.value ∙ c.in_ok-keys.ensures)) (keys_below model c.get.result.now.nodes visits))
