use Rattle.std.proofs.Common.{◌∙◌, ◌<◌, ◌+◌, ◌∷◌, refl, ap, ap₂, sym, subst, arith, length, map, drop, get_or}
use Rattle.std.specs.Prelude.{fold}
use Rattle.std.proofs.lemmas.List.{at_drop_more, drop_all, drop_more}
use Rattle.vr_model.specs.tables.WellFormed.{IsWellFormed}
use Rattle.vr_rules.specs.Placing.{AreBuilt}
use Rattle.vr_strings.specs.Turns.{item_at}
use Rattle.vr_ruin.specs.Offers.{put_back, recreated}
use Rattle.vr_ruin.proofs.Remade.{put_back_open, to_place_of, AreToPlace, IsStillOpen}
use Rattle.vr_ruin.proofs.TurnLemmas.{item_is_at}
use Rattle.vr_ruin.proofs.turning.recreate.Goals as goal

pub loop-k-init : goal.loop-k-init
loop-k-init c = record {
  model = refl;
  turn = to_place_of c.args.trial.now.model c.args.trial.now.lists (map (item_at c.args.trial.now.model) c.args.order.now) c.requires.turn;
  left = refl;
}

pub loop-k-preserved : goal.loop-k-preserved
loop-k-preserved c =
    let model = c.args.trial.now.model in
    let order = c.args.order.now in
    let i = c.loop-k.k-index in
    let lists = c.loop-k.trial.lists in
    let words = c.loop-k.words in
    let low : i < length order = omega (arith, c.loop-k-test.true) in
    let k = get_or order i 0 in
    let rest = map (item_at model) (drop (i + 1) order) in
    let same = c.loop-k.invariant.model in
    let step = c.in_ok-put_back.ensures.value ∙ ap₂ (λ m item. put_back m c.args.wide (lists, words) item)
    same (item_is_at model c.args.candidates.now k _ c.requires.candidates (c.requires.within i 0 low)) in
    let before : IsStillOpen model (subst IsWellFormed same c.know.ensures.well_formed) lists (map (item_at model) (get_or order i 0 ∷ drop (i + 1) order)) =
    record {
      built = subst (λ m. AreBuilt m lists) same c.know.ensures.built;
      left = subst (λ ks. AreToPlace model lists (map (item_at model) ks)) (drop_more order i 0 low) c.loop-k.invariant.turn;
    } in
    let after = put_back_open model (subst IsWellFormed same c.know.ensures.well_formed) c.args.wide lists words (item_at model k) rest before in
    record {
      model = c.in_ok-put_back.ensures.model ∙ same;
      turn = subst (λ ls. AreToPlace model ls rest) (sym (ap (λ p. p.0) step)) after.left;
      left = ap (λ p. fold (put_back model c.args.wide) p rest) step
          ∙ sym (at_drop_more (λ ks. fold (put_back model c.args.wide) (lists, words) (map (item_at model) ks)) order i 0 low) ∙ c.loop-k.invariant.left;
    }

pub returns-clause-value : goal.returns-clause-value
unfolding recreated
returns-clause-value c =
    let model = c.args.trial.now.model in
    let order = c.args.order.now in
    sym (ap (λ ks. fold (put_back model c.args.wide) (c.loop-k.trial.lists, c.loop-k.words) (map (item_at model) ks))
    (drop_all c.loop-k.k-index order (omega (arith, c.loop-k-test.false)))) ∙ c.loop-k.invariant.left
