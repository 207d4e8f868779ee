use Rattle.std.proofs.Common.{◌∙◌, ◌++◌, ◌∷◌, [], ℕ, List, Bor, map, take, ap, sym, arith}
use Rattle.std.proofs.lemmas.Grind.{take_at_read}
use Rattle.std.proofs.lemmas.List.{length-map, get_or-map}
use Rattle.vr_samples.proofs.routes.seqs_of.Goals as goal

pub loop-list-preserved : goal.loop-list-preserved
loop-list-preserved c =
    let lists : List (Bor (List ℕ)) = c.args.lists.now in
    let list_of : Bor (List ℕ) → List ℕ = λ list. list.now in
    let values : List (List ℕ) = map list_of lists in
    let low = c.loop-list-test.true in
    c.in_ok-push.ensures.items ∙ ap (λ l. l ++ c.in_ok-seq_of.field-0 ∷ []) c.loop-list.invariant
    ∙ ap (λ x. take c.loop-list.list-index values ++ x ∷ [])
    (c.in_ok-seq_of.ensures ∙ sym (get_or-map list_of lists c.loop-list.list-index (record { ref_ptr = (0, 0); now = [] }) [] low))
    ∙ sym (take_at_read values c.loop-list.list-index [] (omega (arith, low, length-map lists list_of))).1
