-- What moves add at least, where arcs and groups alone are paid.
use Rattle.std.proofs.Common.{◌≡◌, ◌∙◌, ℕ, Bool, true, false, List, refl, sym, ap, subst, arith}
use Rattle.std.specs.Prelude.{ℤ, pos, ◌+ℤ◌, ◌-ℤ◌, ◌&&◌, ◌||◌, not, IsTrue, Option, Some, None, IfSome, count_by}
use Rattle.std.proofs.lemmas.Int.{ints}
use Rattle.vr_model.specs.tables.Numbers.{is_same_number, total_by}
use Rattle.vr_model.specs.tables.WellFormed.{IsWellFormed}
use Rattle.vr_model.specs.moves.Moves.{apply}
use Rattle.vr_model.specs.routes.Costs.{arcs_part, cost, penalty_for, penalty_part}
use Rattle.vr_model.specs.routes.Rules.{is_valid}
use Rattle.vr_model.specs.declared.neighbours.Move.{Move}
use Rattle.vr_model.specs.declared.neighbours.Move.TheVariants.{TwoOpt, OrOpt, Relocate, Exchange, Cross, RelocatePair, PairActive, PairInactive, MakeActive}
use Rattle.vr_model.specs.declared.neighbours.Move.TheVariants.{MakeInactive, SwapActive}
use Rattle.vr_model.specs.declared.records.Model.{Model}
use Rattle.vr_model.proofs.routes.CostBounds.{penalties-up_to}
use Rattle.vr_routes.specs.Runs.{with_last}
use Rattle.vr_model.specs.declared.neighbours.Neighbourhood.{Neighbourhood}
use Rattle.vr_model.specs.moves.Kinds.{changes_activity, kind_of}
use Rattle.vr_usecosts.specs.Groups.{SavesAtMost}
use Rattle.vr_judge.proofs.PairLemmas.{stay_active}
use Rattle.vr_arccosts.specs.Runs.{AddsNoLess}
use Rattle.vr_judge.specs.Costs.{AddArcsBut, PaysArcsAndGroups, is_least_by_arcs, pays_arcs_and_groups}

-- penalties, by which visits are active
abbrev penalties : Model → (ℕ → Bool) → ℤ
penalties model active = total_by (λ group. penalty_for group.penalty group.max (count_by active group.nodes)) model.groups

-- a move with another last number is of the same kind
pub same_kind : (mv : Move) (k : ℕ) → kind_of (with_last mv k) ≡ kind_of mv
same_kind (TwoOpt v a b) k = refl
same_kind (OrOpt v a n t) k = refl
same_kind (Relocate v a w t) k = refl
same_kind (Exchange v a w b) k = refl
same_kind (Cross v a w b) k = refl
same_kind (RelocatePair p w s t) k = refl
same_kind (PairActive p w s t) k = refl
same_kind (PairInactive p) k = refl
same_kind (MakeActive u w t) k = refl
same_kind (MakeInactive v a) k = refl
same_kind (SwapActive v a u) k = refl

module _ (model : Model) (pays : PaysArcsAndGroups model) (lists : List (List ℕ)) (valid : IsTrue (is_valid model lists)) where
  -- the moves of a run save so much of the penalties at most
  groups_save : (mv : Move) (saved : ℤ) → ((k : ℕ) → SavesAtMost model lists (with_last mv k) saved) → AddArcsBut model lists mv saved
  groups_save mv saved save k one after =
      let later : List (List ℕ) = apply model lists (with_last mv k) in
      let differ : cost model later -ℤ cost model lists
      ≡ (arcs_part model later -ℤ arcs_part model lists) +ℤ (penalty_part model later -ℤ penalty_part model lists) = pays lists later valid after in
      let less = save k one after in
      omega (arith, ints, differ, less)

  pub all_save : (mv : Move) (told : Option ℤ)
      → IfSome told (λ saved. (k : ℕ) → SavesAtMost model lists (with_last mv k) saved) → IfSome told (AddArcsBut model lists mv)
  all_save mv None save = cc
  all_save mv (Some saved) save = groups_save mv saved save

  -- no penalty is to pay, and none is less than that
  pub none_to_pay : IsWellFormed model → penalty_part model lists ≡ pos 0 → (mv : Move) → AddArcsBut model lists mv (pos 0)
  none_to_pay well none mv = groups_save mv (pos 0) λ k one after.
      let low = (penalties-up_to model well (apply model lists (with_last mv k)) after).at_least in
      omega (arith, ints, low, none)

  -- the same visits are active, and so the penalties stay
  pub same_to_pay : (mv : Move) → changes_activity (kind_of mv) ≡ false → AddArcsBut model lists mv (pos 0)
  same_to_pay mv still = groups_save mv (pos 0) λ k one after.
      let other : Move = with_last mv k in
      let stay : penalty_part model (apply model lists other) ≡ penalty_part model lists = ap (penalties model)
      (stay_active model lists other one (ap changes_activity (same_kind mv k) ∙ still)) in
      omega (arith, ints, stay)

-- where more than arcs and groups is paid, or where it is not but penalties may fall, a kind adds less than to arcs
pub unpaid : (model : Model) (lists : List (List ℕ)) (kind : Neighbourhood) → pays_arcs_and_groups model ≡ false → false ≡ is_least_by_arcs model lists kind
unpaid model lists kind pays = sym (ap (λ b. b && (is_same_number (penalty_part model lists) (pos 0) || not (changes_activity kind))) pays)

-- where arcs and groups alone are paid, it depends on the penalties that are to pay, and on the kind
pub by_penalties : (model : Model) (lists : List (List ℕ)) (kind : Neighbourhood) (none : Bool)
    → pays_arcs_and_groups model ≡ true → is_same_number (penalty_part model lists) (pos 0) ≡ none
    → (none || not (changes_activity kind)) ≡ is_least_by_arcs model lists kind
by_penalties model lists kind none pays is =
    sym (ap (λ b. b && (is_same_number (penalty_part model lists) (pos 0) || not (changes_activity kind))) pays ∙ ap (λ b. b || not (changes_activity kind)) is)

-- what is told of the arcs of a model that is the same
pub known_of : (m model : Model) (lists : List (List ℕ)) (mv : Move) (bound : ℤ) → m ≡ model → AddsNoLess m lists mv bound → AddsNoLess model lists mv bound
known_of m model lists mv bound same less = subst (λ (m : Model). AddsNoLess m lists mv bound) same less
