-- What guided search refuses stays refused between two rounds.
use Rattle.std.proofs.Common.{◌≡◌, ◌∙◌, ℕ, ◌&&◌, List, refl, sym, ap, arith}
use Rattle.std.specs.Prelude.{ℤ, pos, ◌+ℤ◌, ◌-ℤ◌, ◌*ℤ◌, int_lt}
use Rattle.std.proofs.lemmas.Int.{ints}
use Rattle.vr_model.specs.search.GuidedSearches.{Penalties, penalised}
use Rattle.vr_model.specs.declared.records.Model.{Model}
use Rattle.vr_model.specs.declared.search.Lambda.{Lambda}
use Rattle.vr_model.specs.declared.neighbours.Move.{Move}
use Rattle.vr_model.specs.moves.Moves.{apply}
use Rattle.vr_routes.specs.Judging.{cost_change}
use Rattle.vr_known.specs.Locality.{HasNoGlobalSpans, Alike}
use Rattle.vr_known.proofs.CostLocality.{over, sum_local, cost_is_local}
use Rattle.vr_known.proofs.Local.{is_local}
use Rattle.vr_known.proofs.Locality.{validity_is_local}
use Rattle.vr_guided.specs.Guides.{makes_less, penalised_change}
use Rattle.vr_guided.proofs.GuideLemmas.{makes_less_where}
use Rattle.vr_guided.specs.Walks.{route_weight}
use Rattle.vr_guided.proofs.PartLemmas.{sums}
use Rattle.vr_descent.specs.Refused.{StaysRefused}
use Rattle.vr_model.specs.tables.WellFormed.{IsWellFormed}

four : (f g : List (List ℕ) → ℤ) (a b c d : List (List ℕ)) → ((l : List (List ℕ)) → f l ≡ g l) → g a -ℤ g b ≡ g c -ℤ g d → f a -ℤ f b ≡ f c -ℤ f d
four f g a b c d same e = let p = same a in let q = same b in let r = same c in let s = same d in omega (arith, ints, p, q, r, s, e)

module _ (model : Model) (lambda : Lambda) (penalties : Penalties) (none : HasNoGlobalSpans model)
    (lists other : List (List ℕ)) (mv : Move) (both : Alike model mv lists other) where
  -- the penalised arc costs grow by the same
  penalised_local : penalised_change model penalties lists mv ≡ penalised_change model penalties other mv
  penalised_local =
      four (penalised model penalties) (over (route_weight model penalties)) (apply model lists mv) lists (apply model other mv) other (sums model penalties)
      (sum_local model mv lists other (is_local model lists other mv both) (route_weight model penalties))

  less_local : makes_less model lambda penalties lists mv (cost_change model lists mv) ≡ makes_less model lambda penalties other mv (cost_change model other mv)
  less_local =
      sym (makes_less_where model lambda penalties lists mv (cost_change model lists mv) (penalised_change model penalties lists mv) refl refl)
      ∙ ap (λ x. int_lt ((lambda.q *ℤ x) +ℤ (lambda.p *ℤ penalised_change model penalties lists mv)) (pos 0)) (cost_is_local model none lists other mv both)
      ∙ ap (λ x. int_lt ((lambda.q *ℤ cost_change model other mv) +ℤ (lambda.p *ℤ x)) (pos 0)) penalised_local
      ∙ makes_less_where model lambda penalties other mv (cost_change model other mv) (penalised_change model penalties other mv) refl refl

-- whether a move makes the augmented cost less depends on the lists of its vehicles alone, and on which visits are
-- active where it changes that, as long as the penalties stay, where nothing is paid for global spans
pub guided_stays : (model : Model) → IsWellFormed model → HasNoGlobalSpans model
    → (lambda : Lambda) (penalties : Penalties) → StaysRefused model (makes_less model lambda penalties)
guided_stays model well none lambda penalties lists other mv both =
    λ i. validity_is_local model well lists other mv both i && less_local model lambda penalties none lists other mv both i
