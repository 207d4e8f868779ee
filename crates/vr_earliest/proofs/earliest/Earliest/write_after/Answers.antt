use Rattle.std.proofs.Common.{◌≡◌, ◌∙◌, ◌<◌, ◌+◌, ℕ, List, [], length, ap, sym, subst, arith}
use Rattle.std.specs.Prelude.{slice_index_or}
use Rattle.std.proofs.lemmas.List.{get_or_default}
use Rattle.vr_model.specs.tables.WellFormed.{IsWellFormed}
use Rattle.vr_model.proofs.tables.Tests.{none_from_test, some_from_test}
use Rattle.vr_routes.specs.Pieces.{no_part}
use Rattle.vr_earliest.specs.declared.earlies.Early.{Early}
use Rattle.vr_earliest.specs.Kept.{KeptWays}
use Rattle.vr_earliest.specs.Kept.{HaveWays}
use Rattle.vr_earliest.proofs.EarlyLemmas.{all-where-some, AreTold, told-more, told-unpaid, unpaid-where-none}
use Rattle.vr_earliest.proofs.earliest.Earliest.write_after.Goals as goal
use Rattle.vr_earliest.proofs.earliest.Earliest.write_after.Goals.{then-not-is_empty, else-not-is_empty}

pub row_after-requires : goal.row_after-requires
row_after-requires c =
    let model = c.args.self.now.model in
    let lists : List (List ℕ) = c.args.routes.now.lists in
    let d = c.loop-d.d in
    let kept = ap (λ s. s.kept) c.self.view_is in
    let all = ap (λ (l : List (List KeptWays)). length l) kept in
    let low : d < length c.args.self.now.kept = omega (arith, all, c.len-d-end.ensures, c.loop-d-test.true) in
    let one : List KeptWays = c.index.result.now in
    let is : one ≡ slice_index_or c.args.self.now.kept d one = c.index.ensures ∙ ap (λ (l : List (List KeptWays)). slice_index_or l d one) kept in
    let here : HaveWays model d lists one = subst (HaveWays model d lists) (sym is) (c.requires.stands.ways.each d one low) in
    let some = some_from_test _ _ c.if-not-is_empty.true c.is_empty.ensures in
    let same = ap (λ (l : List KeptWays). length l) c.behind-self.view_is in
    record {
      stands = c.requires.stands;
      dimension = omega (arith, low, c.requires.stands.ways.many);
      of_all = ap (λ (l : List KeptWays). length l) (get_or_default c.args.self.now.kept d [] one low ∙ sym is)
          ∙ all-where-some model d lists one here (omega (arith, some, same));
      parts_are = c.requires.parts;
      below = c.requires.nodes;
    }

pub loop-d-preserved : goal.loop-d-preserved
loop-d-preserved c =
    let model = c.args.self.now.model in
    let lists : List (List ℕ) = c.args.routes.now.lists in
    let parts = c.args.change.now in
    let d = c.loop-d.d in
    let out : List (List Early) = c.loop-d.out in
    let kept = ap (λ s. s.kept) c.self.view_is in
    elim c.if-not-is_empty.branch [
      | then-not-is_empty w ↦ (
          let row : List Early = w.row_after.result in
          let few = (subst IsWellFormed (ap (λ s. s.model) c.self.view_is) c.self.invariant.well_formed).number_of_dimensions in
          let all = ap (λ (l : List (List KeptWays)). length l) kept in
          let set = w.set.ensures.row in
          subst (AreTold model lists parts (d + 1)) (sym (w.out-is ∙ set))
          (told-more model lists parts d out c.loop-d.invariant row
          (omega (arith, few, c.requires.stands.ways.many, all, c.len-d-end.ensures, c.loop-d-test.true))
          (ap (λ (l : List (List Early)). length l) (sym set) ∙ w.set.ensures.many) w.row_after.ensures))
      | else-not-is_empty w ↦ (
          let none = w.if-not-is_empty.false in
          let first = c.requires.parts.each_vehicle 0 no_part (omega (arith, c.parts-few.ensures.some, c.parts-few.ensures.value)) in
          let one : List KeptWays = c.index.result.now in
          let is : one ≡ slice_index_or c.args.self.now.kept d one = c.index.ensures ∙ ap (λ (l : List (List KeptWays)). slice_index_or l d one) kept in
          let all = ap (λ (l : List (List KeptWays)). length l) kept in
          let here : HaveWays model d lists one = subst (HaveWays model d lists) (sym is)
          (c.requires.stands.ways.each d one (omega (arith, all, c.len-d-end.ensures, c.loop-d-test.true))) in
          let empty = none_from_test _ _ none c.is_empty.ensures in
          let length_is = ap (λ (l : List KeptWays). length l) c.behind-self.view_is in
          subst (AreTold model lists parts (d + 1)) (sym w.out-is)
          (told-unpaid model lists parts d out c.loop-d.invariant
          (unpaid-where-none model d lists one here (omega (arith, empty, length_is)) (omega (arith, first)))))
    ]

pub returns : goal.returns
returns c =
    let kept = ap (λ s. length s.kept) c.self.view_is in
    record {
      few = omega (arith, c.parts-few.ensures.value, c.parts-few.ensures.few);
      each = λ d low paid. c.loop-d.invariant d (omega (arith, c.requires.stands.ways.many, kept, c.len-d-end.ensures, c.loop-d-test.false, low)) paid;
    }
