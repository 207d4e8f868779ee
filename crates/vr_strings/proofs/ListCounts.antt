-- How many visits stand in lists, and how many lists are used, list by list.
use Rattle.std.proofs.Common.{◌≡◌, ◌∙◌, ◌<◌, ◌≤◌, ◌+◌, ◌*◌, ◌++◌, ℕ, suc, List, [], ◌∷◌, Bool, true, false, cond, not, refl, ap, ap₂, sym, arith, length, take}
use Rattle.std.specs.Prelude.{filter, ◌==◌}
use Rattle.std.specs.List.{concat}
use Rattle.std.proofs.lemmas.List.{append-nil, length-append, take_more, take_all}
use Rattle.std.proofs.lemmas.List.Elements.{filter-append}
use Rattle.vr_model.specs.tables.Numbers.{below}
use Rattle.vr_model.specs.routes.Routes.{route, is_empty, used_vehicles}
use Rattle.vr_model.proofs.tables.Ranges.{below-more}
use Rattle.vr_model.proofs.tables.Tests.{apart}
use Rattle.vr_strings.specs.Strings.{active_count}

-- the first v lists have this many visits, and this many of them are used
pub record AreCounts (lists : List (List ℕ)) (v active used : ℕ) : Type 0 where
  pub active_is : active ≡ active_count (take v lists)
  pub used_is : used ≡ length (filter (λ w. not (is_empty (route lists w))) (below v))
  pub active_few : active ≤ 1000 * v
  pub used_few : used ≤ v

count_joined : (front : List (List ℕ)) (list : List ℕ) → active_count (front ++ list ∷ []) ≡ active_count front + length list
count_joined [] list = let all = ap length (append-nil list) in omega (arith, all)
count_joined (x ∷ front) list =
    let rest = count_joined front list in
    let one = length-append x (concat (front ++ list ∷ [])) in
    let two = length-append x (concat front) in
    omega (arith, rest, one, two)

pub empty_test : (list : List ℕ) → (length list == 0) ≡ is_empty list
empty_test [] = refl
empty_test (x ∷ xs) = apart (suc (length xs)) 0 (λ e. absurd (omega (arith, e)))

length_put : (b : Bool) (ws : List ℕ) (v : ℕ) → length (ws ++ cond (not b) (v ∷ []) []) ≡ cond b (length ws) (length ws + 1)
length_put true ws v = ap length (append-nil ws)
length_put false ws v = length-append ws (v ∷ [])

cond_most : (b : Bool) (m n v : ℕ) → m ≡ cond b n (n + 1) → n ≤ v → m ≤ v + 1
cond_most true m n v e low = omega (arith, e, low)
cond_most false m n v e low = omega (arith, e, low)

pub counts_more : (lists : List (List ℕ)) (v active used long more next : ℕ)
    → AreCounts lists v active used → v < length lists → long ≡ length (route lists v) → long ≤ 1000
    → more ≡ active + long → next ≡ cond (long == 0) used (used + 1) → AreCounts lists (v + 1) more next
counts_more lists v active used long more next before low is few more_is next_is =
    let front = ap active_count (take_more lists v [] low) ∙ count_joined (take v lists) (route lists v) in
    let active_is = before.active_is in
    let active_few = before.active_few in
    let p = λ (w : ℕ). not (is_empty (route lists w)) in
    let grown : filter p (below (v + 1)) ≡ filter p (below v) ++ cond (p v) (v ∷ []) [] = ap (filter p) (below-more v) ∙ filter-append p (below v) (v ∷ []) in
    let empty : (long == 0) ≡ is_empty (route lists v) = ap (λ n. n == 0) is ∙ empty_test (route lists v) in
    record {
      active_is = omega (arith, front, active_is, more_is, is);
      used_is = next_is ∙ ap₂ (λ b n. cond b n (n + 1)) empty before.used_is
          ∙ sym (length_put (is_empty (route lists v)) (filter p (below v)) v) ∙ sym (ap length grown);
      active_few = omega (arith, active_few, more_is, few);
      used_few = cond_most (long == 0) next used v next_is before.used_few;
    }

pub counts_all : (lists : List (List ℕ)) (v active used : ℕ) → AreCounts lists v active used
    → v ≡ length lists → (active ≡ active_count lists) × (used ≡ length (used_vehicles lists))
counts_all lists v active used counts end = (
  counts.active_is ∙ ap active_count (take_all v lists (omega (arith, end))),
  counts.used_is ∙ ap (λ n. length (filter (λ w. not (is_empty (route lists w))) (below n))) end,
)
