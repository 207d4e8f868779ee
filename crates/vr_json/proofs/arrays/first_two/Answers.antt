use Rattle.std.proofs.Common.{◌≡◌, ◌≤◌, ◌<◌, List, [], ◌∷◌, length, get_or, map, Ok, sym, subst, ap₂, refl, arith}
use Rattle.serde_json.specs.View.{view}
use Rattle.vr_json.specs.Reading.{Answers, first_two}
use Rattle.vr_json.proofs.Steps.{then, stops, gives}
use Rattle.vr_json.proofs.arrays.first_two.Goals as goal

-- a list of two entries
two : {A : Type 0} (xs : List A) (x y : A) → 2 ≤ length xs → length xs < 3 → x ≡ get_or xs 0 x → y ≡ get_or xs 1 y → xs ≡ x ∷ y ∷ []
two [] x y some few first second = absurd (omega arith)
two (a ∷ []) x y some few first second = absurd (omega arith)
two (a ∷ b ∷ []) x y some few first second = ap₂ (λ a b. a ∷ b ∷ []) (sym first) (sym second)
two (a ∷ b ∷ c ∷ xs) x y some few first second = absurd (omega arith)

pub returns-in_err-one-in-len2 : goal.returns-in_err-one-in-len2
unfolding first_two
returns-in_err-one-in-len2 g c =
    let is = two c.args.items.now c.first-item.result c.second-item.result c.in-len2.len_at_least c.in-len2.len_below c.first-item.is c.second-item.is in
    subst (λ items. Answers c.from_residual.result (first_two (g.R.Reader.reads c.args.entry.now []) c.args.path.now (map view items))) (sym is)
    (rw (← c.entry.ensures) (stops _ _ c.in_err-one-in-len2.ensures c.from_residual.ensures.1))

pub returns-in_err-other-in-len2 : goal.returns-in_err-other-in-len2
unfolding first_two
returns-in_err-other-in-len2 g c =
    let is = two c.args.items.now c.first-item.result c.second-item.result c.in-len2.len_at_least c.in-len2.len_below c.first-item.is c.second-item.is in
    subst (λ items. Answers c.from_residual-in_err-other-in-len2.result (first_two (g.R.Reader.reads c.args.entry.now []) c.args.path.now (map view items)))
    (sym is)
    (rw (← c.entry.ensures, ← c.entry-in-len2.ensures)
    (then _ c.in_ok-one-in-len2.ensures (stops _ _ c.in_err-other-in-len2.ensures c.from_residual-in_err-other-in-len2.ensures.1)))

pub returns-in_ok-other-in-len2 : goal.returns-in_ok-other-in-len2
unfolding first_two
returns-in_ok-other-in-len2 g c =
    let is = two c.args.items.now c.first-item.result c.second-item.result c.in-len2.len_at_least c.in-len2.len_below c.first-item.is c.second-item.is in
    subst (λ items. Answers (Ok (c.in_ok-one-in-len2.one, c.in_ok-other-in-len2.other))
    (first_two (g.R.Reader.reads c.args.entry.now []) c.args.path.now (map view items))) (sym is)
    (rw (← c.entry.ensures, ← c.entry-in-len2.ensures) (then _ c.in_ok-one-in-len2.ensures (then _ c.in_ok-other-in-len2.ensures (gives refl))))
