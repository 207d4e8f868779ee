-- Routes that are merged, join by join.
use Rattle.std.proofs.Common.{◌≡◌, ◌∙◌, ◌<◌, ◌+◌, ◌++◌, ℕ, zero, suc, List, [], ◌∷◌, Bool, true, false, cond, not, Option, Some, None, refl, ap, sym, subst}
use Rattle.std.proofs.Common.{length, take, get_or, pos}
use Rattle.std.specs.Prelude.{◌||◌, ◌==◌, filter, int_lt, nat_lt, IfSome}
use Rattle.std.specs.Option.{option_map}
use Rattle.std.proofs.lemmas.List.{get_or_default}
use Rattle.std.proofs.lemmas.List.Elements.{filter_more}
use Rattle.vr_model.specs.declared.records.Model.{Model}
use Rattle.vr_model.specs.first.Items.{first_node}
use Rattle.vr_model.specs.first.Choosing.{least_by}
use Rattle.vr_model.specs.first.SavingsJoins.{Join, after_join, joined_route, is_part_of, is_wanted, join_key, joins, merged}
use Rattle.vr_first_savings.specs.declared.choice.JoinChoice.{JoinChoice}
use Rattle.vr_first_savings.specs.Joins.{join_of, MayBeJoined}

-- the one of the next route that is kept
pub kept-more : (join : Join) (routes : List (List ℕ)) (i front back : ℕ) (route : List ℕ) (after more : List (List ℕ))
    → i < length routes → get_or routes i route ≡ route
    → front ≡ first_node join.front → back ≡ first_node join.back
    → after ≡ joined_route join ∷ filter (λ list. not (is_part_of join list)) (take i routes)
    → more ≡ after ++ cond (not ((first_node route == front) || (first_node route == back))) (route ∷ []) []
    → more ≡ joined_route join ∷ filter (λ list. not (is_part_of join list)) (take (i + 1) routes)
kept-more join routes i front back route after more low is at_front at_back so_far e =
    let keep = λ (list : List ℕ). not (is_part_of join list) in
    e ∙ (λ t. so_far t ++ cond (not ((first_node route == at_front t) || (first_node route == at_back t))) (route ∷ []) [])
    ∙ ap (λ list. joined_route join ∷ (filter keep (take i routes) ++ cond (keep list) (list ∷ []) [])) (sym is)
    ∙ ap (λ lists. joined_route join ∷ lists) (sym (filter_more keep routes i route low))

-- no join may be made
pub merged-stops : (model : Model) (more : ℕ) (routes : List (List ℕ))
    → least_by (join_key model) (joins model routes) ≡ None → merged model more routes ≡ routes
merged-stops model zero routes e = refl
merged-stops model (suc more) routes e = ap (λ best. elim best
    [ None ↦ routes | Some join ↦ elim (is_wanted model routes join) [ true ↦ merged model more (after_join routes join) | false ↦ routes ] ]) e

-- the best join is not wanted
pub merged-unwanted : (model : Model) (more : ℕ) (routes : List (List ℕ)) (join : Join)
    → least_by (join_key model) (joins model routes) ≡ Some join → is_wanted model routes join ≡ false → merged model more routes ≡ routes
merged-unwanted model zero routes join e w = refl
merged-unwanted model (suc more) routes join e w =
    ap (λ best. elim best
    [ None ↦ routes | Some join ↦ elim (is_wanted model routes join) [ true ↦ merged model more (after_join routes join) | false ↦ routes ] ]) e
    ∙ ap (λ b. elim b [ true ↦ merged model more (after_join routes join) | false ↦ routes ]) w

-- it is made
pub merged-next : (model : Model) (more less : ℕ) (routes : List (List ℕ)) (join : Join)
    → least_by (join_key model) (joins model routes) ≡ Some join → is_wanted model routes join ≡ true → more ≡ suc less
    → merged model more routes ≡ merged model less (after_join routes join)
merged-next model more less routes join e w count =
    ap (λ n. merged model n routes) count
    ∙ ap (λ best. elim best [
      | None ↦ routes
      | Some join ↦ elim (is_wanted model routes join) [ true ↦ merged model less (after_join routes join) | false ↦ routes ]
    ]) e
    ∙ ap (λ b. elim b [ true ↦ merged model less (after_join routes join) | false ↦ routes ]) w

-- the entry that code reads
pub read-item : (routes : List (List ℕ)) (i : ℕ) (route item : List ℕ) → i < length routes
    → route ≡ item → item ≡ get_or routes i item → get_or routes i route ≡ route
read-item routes i route item low same is = get_or_default routes i route item low ∙ sym is ∙ sym same

-- the best join, as code finds it, and whether it finds it wanted
pub record IsFound (model : Model) (routes : List (List ℕ)) (choice : JoinChoice) (wanted : Bool) : Type 0 where
  pub best : least_by (join_key model) (joins model routes) ≡ Some (join_of routes choice)
  pub may : MayBeJoined model routes choice
  pub tells : wanted ≡ is_wanted model routes (join_of routes choice)

pub found-read : (model : Model) (routes read : List (List ℕ)) (choice : JoinChoice) (found : Option JoinChoice) (count : ℕ) (wanted : Bool)
    → read ≡ routes → found ≡ Some choice
    → option_map (join_of read) found ≡ least_by (join_key model) (joins model read) → IfSome found (MayBeJoined model read) → count ≡ length routes
    → wanted ≡ (int_lt (pos 0) choice.saving || nat_lt (length model.vehicles) count) → IsFound model routes choice wanted
found-read model routes read choice found count wanted same is best may many tells =
    let there : MayBeJoined model routes choice = subst (λ routes. MayBeJoined model routes choice)
    same (subst (λ found. IfSome found (MayBeJoined model read)) is may) in
    record {
      best = sym (ap (λ routes. least_by (join_key model) (joins model routes)) same) ∙ sym best
          ∙ ap (option_map (join_of read)) is ∙ ap (λ routes. Some (join_of routes choice)) same;
      may = there;
      tells = tells ∙ (λ t. int_lt (pos 0) (there.saves t) || nat_lt (length model.vehicles) (many t));
    }
