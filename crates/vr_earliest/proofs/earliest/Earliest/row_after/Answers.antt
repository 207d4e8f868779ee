use Rattle.std.proofs.Common.{◌≡◌, ◌∙◌, ℕ, List, sym, subst, arith, inl, inr}
use Rattle.std.proofs.lemmas.Bool.{cases_lt}
use Rattle.std.proofs.lemmas.List.{get_or-set_other, get_or-set_same, length-set}
use Rattle.std.specs.Prelude.{slice_index_or, slice_set}
use Rattle.vr_routes.specs.Pieces.{part_at}
use Rattle.vr_earliest.specs.declared.earlies.Early.{Early}
use Rattle.vr_earliest.specs.Earlies.{no_early, IsEarlyPart}
use Rattle.vr_earliest.proofs.earliest.Earliest.row_after.Goals as goal

pub loop-k-preserved : goal.loop-k-preserved
loop-k-preserved c =
    let model = c.args.self.now.model in
    let lists : List (List ℕ) = c.args.routes.now.lists in
    let i = c.loop-k.invariant in
    let k = c.loop-k.k in
    let row : List Early = c.loop-k.row in
    let new : Early = c.after.result in
    let Told : ℕ → Early → Type 0 = λ j early. IsEarlyPart model lists c.args.d (part_at c.args.change.now j) early in
    record {
      many = length-set row k new ∙ i.many;
      each = λ j under. elim (cases_lt j k) [
        | inl before ↦ subst (Told j) (sym (get_or-set_other row k j new no_early (omega (arith, before)))) (i.each j before)
        | inr past ↦ (
            let here : k ≡ j = omega (arith, under, past) in
            subst (λ n. Told n (slice_index_or (slice_set row k new) n no_early)) here
            (subst (Told k) (sym (get_or-set_same row k new no_early (omega (arith, c.parts-k-end.ensures.few, c.loop-k-test.true, i.many)))) c.after.ensures))
      ];
    }

pub returns : goal.returns
returns c k low =
    c.loop-k.invariant.each k (omega (arith, c.parts-k-end.ensures.value, c.loop-k-test.false, low))
