-- What a visit adds at least to a list stays known when the list gets one node more: only two arcs are new.
use Rattle.std.proofs.Common.{◌≡◌, ◌∙◌, ◌≤◌, ◌++◌, ℕ, zero, suc, List, [], ◌∷◌, ℤ, pos, ◌≤ℤ◌, ap, sym, subst, arith, length, take, drop, append_assoc}
use Rattle.std.specs.Prelude.{⊤, insert}
use Rattle.std.proofs.lemmas.Int.{ints}
use Rattle.std.proofs.lemmas.List.{take-append-drop}
use Rattle.vr_model.specs.declared.records.Model.{Model}
use Rattle.vr_model.specs.tables.Tables.{arc_cost, vehicle_at}
use Rattle.vr_first_insert.specs.Increases.{node_before, node_behind, detour}
use Rattle.vr_first_insert.specs.Placings.{VisitAddsAtLeast}
use Rattle.vr_first_insert.proofs.IncreaseLemmas.{last_of, first_of, last-taken, first-dropped}

-- P holds of each two nodes in turn
abbrev pub EachGap : (ℕ → ℕ → Type 0) → ℕ → List ℕ → Type 0
EachGap P a [] = ⊤
EachGap P a (b ∷ bs) = P a b × EachGap P b bs

each-weaker : (P Q : ℕ → ℕ → Type 0) → ((a b : ℕ) → P a b → Q a b) → (a : ℕ) (bs : List ℕ) → EachGap P a bs → EachGap Q a bs
each-weaker P Q f a [] h = tt
each-weaker P Q f a (b ∷ bs) h = (f a b h.0, each-weaker P Q f b bs h.1)

-- one node more between xs and zs
each-inserted : (P : ℕ → ℕ → Type 0) (a : ℕ) (xs zs : List ℕ) (y e : ℕ) → EachGap P a (xs ++ (zs ++ e ∷ []))
    → P (last_of a xs) y → P y (first_of zs e) → EachGap P a (xs ++ y ∷ (zs ++ e ∷ []))
unfolding last_of first_of
each-inserted P a [] [] y e h before behind = (before, (behind, tt))
each-inserted P a [] (z ∷ zs) y e h before behind = (before, (behind, h.1))
each-inserted P a (x ∷ xs) zs y e h before behind = (h.0, each-inserted P x xs zs y e h.1 before behind)

gap-between : (P : ℕ → ℕ → Type 0) (a : ℕ) (xs zs : List ℕ) (e : ℕ) → EachGap P a (xs ++ (zs ++ e ∷ [])) → P (last_of a xs) (first_of zs e)
unfolding last_of first_of
gap-between P a [] [] e h = h.0
gap-between P a [] (z ∷ zs) e h = h.0
gap-between P a (x ∷ xs) zs e h = gap-between P x xs zs e h.1

-- what a visit adds on the arc from a to b
abbrev pub gap : Model → ℕ → ℕ → ℕ → ℕ → ℤ
gap model v x a b = detour model v a x b (arc_cost model v a b)

-- a visit adds at least so much on each arc of the list of vehicle v, the arc from start to end where it is empty
abbrev pub IsLeastGap : Model → ℕ → List ℕ → ℕ → ℤ → Type 0
IsLeastGap model v list x least = EachGap (λ a b. least ≤ℤ gap model v x a b) (vehicle_at model v).start (list ++ (vehicle_at model v).end ∷ [])

split : (list : List ℕ) (t e : ℕ) → list ++ e ∷ [] ≡ take t list ++ (drop t list ++ e ∷ [])
split list t e = ap (λ l. l ++ e ∷ []) (sym (take-append-drop t list)) ∙ append_assoc (take t list) (drop t list) (e ∷ [])

-- it is the least before each place
pub least-of-gaps : (model : Model) (v : ℕ) (list : List ℕ) (x : ℕ) (least : ℤ)
    → pos 0 ≤ℤ arc_cost model v (vehicle_at model v).start (vehicle_at model v).end → IsLeastGap model v list x least → VisitAddsAtLeast model v list x least
least-of-gaps model v [] x least not_negative h zero within = let here = h.0 in omega (arith, ints, here, not_negative)
least-of-gaps model v [] x least not_negative h (suc t) within = absurd (omega (arith, within))
least-of-gaps model v (n ∷ ns) x least not_negative h t within =
    let list : List ℕ = n ∷ ns in
    let start : ℕ = (vehicle_at model v).start in
    let end : ℕ = (vehicle_at model v).end in
    subst (λ b. least ≤ℤ gap model v x (node_before model v list t) b) (first-dropped list t end)
    (subst (λ a. least ≤ℤ gap model v x a (first_of (drop t list) end)) (last-taken start list t within)
    (gap-between (λ a b. least ≤ℤ gap model v x a b) start (take t list) (drop t list) end
    (subst (EachGap (λ a b. least ≤ℤ gap model v x a b) start) (split list t end) h)))

-- it stays so where a node is put before a place
pub gaps-inserted : (model : Model) (v : ℕ) (list : List ℕ) (x y t : ℕ) (least less : ℤ) → IsLeastGap model v list x least → t ≤ length list → less ≤ℤ least
    → less ≤ℤ gap model v x (node_before model v list t) y → less ≤ℤ gap model v x y (node_behind model v list t) → IsLeastGap model v (insert list t y) x less
gaps-inserted model v list x y t least less h within low before behind =
    let P = λ (a b : ℕ). less ≤ℤ gap model v x a b in
    let start : ℕ = (vehicle_at model v).start in
    let end : ℕ = (vehicle_at model v).end in
    let weaker : EachGap P start (list ++ end ∷ []) = each-weaker (λ a b. least ≤ℤ gap model v x a b)
    P (λ a b g. omega (arith, ints, g, low)) start (list ++ end ∷ []) h in
    subst (EachGap P start) (sym (append_assoc (take t list) (y ∷ drop t list) (end ∷ [])))
    (each-inserted P start (take t list) (drop t list) y end (subst (EachGap P start) (split list t end) weaker)
    (subst (λ a. less ≤ℤ gap model v x a y) (sym (last-taken start list t within)) before)
    (subst (λ b. less ≤ℤ gap model v x y b) (sym (first-dropped list t end)) behind))
