-- Items that are missing, counted one by one.
use Rattle.std.proofs.Common.{◌≡◌, ◌∙◌, ◌<◌, ◌+◌, ℕ, List, ◌∷◌, Bool, true, false, cond, not, refl, ap, sym, arith, length, get_or, map, drop}
use Rattle.std.proofs.lemmas.List.{at_drop_more}
use Rattle.vr_rules.specs.declared.items.Candidate.{Candidate}
use Rattle.vr_rules.specs.Placing.{item_nodes, AreCandidates}
use Rattle.std.specs.Prelude.{◌&&◌, ◌==◌, filter}
use Rattle.vr_model.specs.routes.Routes.{is_active}
use Rattle.vr_model.specs.first.Items.{class, first_node}
use Rattle.vr_model.specs.declared.records.Model.{Model}

-- how many of some items are of class 0 and in no list
abbrev pub missing_of : Model → List (List ℕ) → List (List ℕ) → ℕ
missing_of model lists items = length (filter (λ item. class model item == 0) (filter (λ item. not (is_active lists (first_node item))) items))

-- one item more
pub missing_more : (model : Model) (lists : List (List ℕ)) (item : List ℕ) (items : List (List ℕ)) (is_wanted is_there : Bool)
    → (class model item == 0) ≡ is_wanted → is_active lists (first_node item) ≡ is_there
    → missing_of model lists (item ∷ items) ≡ cond (is_wanted && not is_there) 1 0 + missing_of model lists items
missing_more model lists item items is_wanted true e f =
    ap (λ b.
    length (filter (λ item. class model item == 0)
    (cond (not b) (item ∷ filter (λ item. not (is_active lists (first_node item))) items)
    (filter (λ item. not (is_active lists (first_node item))) items)))) f
    ∙ none (is_wanted && false) (and-none is_wanted)
  where
    and-none : (b : Bool) → (b && false) ≡ false
    and-none true = refl
    and-none false = refl

    none : (b : Bool) → b ≡ false → missing_of model lists items ≡ cond b 1 0 + missing_of model lists items
    none true h = absurd (cc)
    none false h = omega arith
missing_more model lists item items is_wanted false e f =
    ap (λ b.
    length (filter (λ item. class model item == 0)
    (cond (not b) (item ∷ filter (λ item. not (is_active lists (first_node item))) items)
    (filter (λ item. not (is_active lists (first_node item))) items)))) f
    ∙ ap (λ b. length (cond b (item ∷ filter (λ item. class model item == 0) (filter (λ item. not (is_active lists (first_node item))) items))
    (filter (λ item. class model item == 0) (filter (λ item. not (is_active lists (first_node item))) items)))) e
    ∙ by is_wanted
  where
    by : (b : Bool) → length (cond b (item ∷ filter (λ item. class model item == 0) (filter (λ item. not (is_active lists (first_node item))) items))
        (filter (λ item. class model item == 0) (filter (λ item. not (is_active lists (first_node item))) items)))
        ≡ cond (b && true) 1 0 + missing_of model lists items
    by true = omega arith
    by false = omega arith

-- one candidate more
pub counted_more : (model : Model) (lists : List (List ℕ)) (candidates : List Candidate) (i : ℕ) (d : Candidate) (count here whole : ℕ)
    → AreCandidates model candidates → i < length candidates
    → here ≡ cond (((get_or candidates i d).class == 0) && not (is_active lists (first_node (item_nodes (get_or candidates i d).item)))) 1 0
    → count + missing_of model lists (map (λ candidate. item_nodes candidate.item) (drop i candidates)) ≡ whole
    → (count + here) + missing_of model lists (map (λ candidate. item_nodes candidate.item) (drop (i + 1) candidates)) ≡ whole
counted_more model lists candidates i d count here whole are low is sum =
    let next = get_or candidates i d in
    let items = map (λ candidate. item_nodes candidate.item) (drop (i + 1) candidates) in
    let opened = at_drop_more (λ cs. missing_of model lists (map (λ candidate. item_nodes candidate.item) cs)) candidates i d low in
    let more = missing_more model lists (item_nodes next.item) items (next.class == 0)
    (is_active lists (first_node (item_nodes next.item))) (ap (λ n. n == 0) (sym (are.each i d low).class)) refl in
    omega (arith, opened, more, is, sum)
