use Rattle.std.proofs.Common.{◌∙◌, ap, ap₂, sym, subst, map}
use Rattle.vr_strings.specs.Turns.{item_at, turns}
use Rattle.vr_ruin.specs.Makings.{AreInTurn}
use Rattle.vr_ruin.proofs.Remade.{in_turn_of, to_place, turns_permutation}
use Rattle.vr_ruin.proofs.stepping.Stepper.remake.Goals as goal

pub recreate-requires-clause-turn : goal.recreate-requires-clause-turn
recreate-requires-clause-turn c =
    let t = c.cut_routes.new.trial in
    let words = c.cut_routes.new.words in
    let same = c.self.invariant.keyed_is ∙ ap (λ s. s.model) c.self.view_is
    ∙ sym c.requires.same ∙ sym c.begin.ensures.model ∙ sym c.in_ok-cut_routes.ensures.model in
    let order = ap₂ (λ m ks. map (item_at m) ks) (sym same) c.deref-2.ensures.value
    ∙ c.in_ok-draw_turns.ensures.order ∙ ap₂ (λ m ls. (turns m ls words).0) same c.routes.ensures.lists in
    subst (AreInTurn t.model t.lists) (sym order)
    (in_turn_of t.model t.lists (turns t.model t.lists words).0
    (to_place t.model c.know.ensures.well_formed t.lists (turns t.model t.lists words).0 (turns_permutation t.model t.lists words)))
