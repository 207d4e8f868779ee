-- Changes of an augmented cost.
use Rattle.std.proofs.Common.{◌≡◌, ◌∙◌, ◌≤◌, ◌^◌, ℕ, zero, suc, false, List, to_z, of_z, refl, sym, ap, ap₂, subst, arith}
use Rattle.std.specs.Int.{w128}
use Rattle.std.specs.Prelude.{ℤ, pos, negsuc, neg_ℤ, ◌+ℤ◌, ◌-ℤ◌, ◌*ℤ◌, ◌≤ℤ◌, int_lt, unsigned_abs, IsTrue}
use Rattle.std.proofs.lemmas.Int.{ints}
use Rattle.std.proofs.Math.IntN.{zero-*ℤ, suc_ℤ-*ℤ, pred_ℤ-*ℤ, *ℤ-zero}
use Rattle.vr_model.specs.moves.Moves.{apply}
use Rattle.vr_model.specs.moves.MoveTests.{is_move}
use Rattle.vr_model.specs.routes.Costs.{cost}
use Rattle.vr_model.specs.routes.Routes.{are_lists}
use Rattle.vr_model.specs.routes.Rules.{is_valid}
use Rattle.vr_model.specs.search.GuidedSearches.{Penalties, augmented, penalised}
use Rattle.vr_model.specs.tables.WellFormed.{IsWellFormed}
use Rattle.vr_model.specs.declared.records.Model.{Model}
use Rattle.vr_model.specs.declared.search.Lambda.{Lambda}
use Rattle.vr_model.specs.declared.neighbours.Move.{Move}
use Rattle.vr_model.proofs.moves.KeptLists.{moves_keep_lists}
use Rattle.vr_model.proofs.routes.Lists.{are-lists}
use Rattle.vr_routes.specs.Changes.{IsChange}
use Rattle.vr_routes.specs.Judging.{cost_change}
use Rattle.vr_routes.specs.Pieces.{ListAfter, changed}
use Rattle.vr_guided.specs.Guides.{is_gain, makes_less, penalised_change}

spread : (q a b : ℤ) → q *ℤ (a -ℤ b) ≡ (q *ℤ a) -ℤ (q *ℤ b)
spread (pos zero) a b = omega (arith, ints, zero-*ℤ (a -ℤ b), zero-*ℤ a, zero-*ℤ b)
spread (pos (suc n)) a b = omega (arith, ints, suc_ℤ-*ℤ (pos n) (a -ℤ b), suc_ℤ-*ℤ (pos n) a, suc_ℤ-*ℤ (pos n) b, spread (pos n) a b)
spread (negsuc zero) a b =
    omega (arith, ints, pred_ℤ-*ℤ (pos zero) (a -ℤ b), pred_ℤ-*ℤ (pos zero) a, pred_ℤ-*ℤ (pos zero) b, zero-*ℤ (a -ℤ b), zero-*ℤ a, zero-*ℤ b)
spread (negsuc (suc n)) a b = omega (arith, ints, pred_ℤ-*ℤ (negsuc n) (a -ℤ b), pred_ℤ-*ℤ (negsuc n) a, pred_ℤ-*ℤ (negsuc n) b, spread (negsuc n) a b)

less : (x y : ℤ) → int_lt (x -ℤ y) (pos 0) ≡ int_lt x y
less x y = Prim.grind (arith, ints)

regroup : (x y s t : ℤ) → (x -ℤ y) +ℤ (s -ℤ t) ≡ (x +ℤ s) -ℤ (y +ℤ t)
regroup x y s t = omega (arith, ints)

-- the weighed changes are less than 0 where the weighed sum is less
weighed : (q p a b s t : ℤ) → int_lt ((q *ℤ (a -ℤ b)) +ℤ (p *ℤ (s -ℤ t))) (pos 0) ≡ int_lt ((q *ℤ a) +ℤ (p *ℤ s)) ((q *ℤ b) +ℤ (p *ℤ t))
weighed q p a b s t = ap (λ z. int_lt (z +ℤ (p *ℤ (s -ℤ t))) (pos 0)) (spread q a b)
    ∙ (ap (λ z. int_lt (((q *ℤ a) -ℤ (q *ℤ b)) +ℤ z) (pos 0)) (spread p s t)
    ∙ (ap (λ z. int_lt z (pos 0)) (regroup (q *ℤ a) (q *ℤ b) (p *ℤ s) (p *ℤ t)) ∙ less ((q *ℤ a) +ℤ (p *ℤ s)) ((q *ℤ b) +ℤ (p *ℤ t))))

-- a move makes the augmented cost less where the weighed changes are less than 0
pub makes_less_where : (model : Model) (lambda : Lambda) (penalties : Penalties) (lists : List (List ℕ)) (mv : Move) (costs change : ℤ)
    → costs ≡ cost_change model lists mv → change ≡ penalised_change model penalties lists mv
    → int_lt ((lambda.q *ℤ costs) +ℤ (lambda.p *ℤ change)) (pos 0) ≡ makes_less model lambda penalties lists mv costs
unfolding augmented
makes_less_where model lambda penalties lists mv costs change e h = ap₂ (λ x y. int_lt ((lambda.q *ℤ x) +ℤ (lambda.p *ℤ y)) (pos 0)) e h
    ∙ weighed lambda.q lambda.p (cost model (apply model lists mv)) (cost model lists)
    (penalised model penalties (apply model lists mv)) (penalised model penalties lists)

-- q times a number from 0 on is from 0 on
times_low : (q x : ℤ) → pos 1 ≤ℤ q → pos 0 ≤ℤ x → pos 0 ≤ℤ (q *ℤ x)
times_low (pos n) (pos k) some low = omega (arith, ints)
times_low (pos n) (negsuc k) some low = absurd (never low)
  where
    never : pos 0 ≤ℤ negsuc k → ⊥
    never h = omega (arith, ints, h)
times_low (negsuc n) x some low = absurd (never some)
  where
    never : pos 1 ≤ℤ negsuc n → ⊥
    never h = omega (arith, ints, h)

not_less : (x y z : ℤ) → pos 0 ≤ℤ (x -ℤ y) → int_lt (y +ℤ z) (pos 0) ≡ false → int_lt (x +ℤ z) (pos 0) ≡ false
not_less x y z more none = Prim.grind (arith, ints, more, none)

not_less_behind : (z x y : ℤ) → pos 0 ≤ℤ (x -ℤ y) → int_lt (z +ℤ y) (pos 0) ≡ false → int_lt (z +ℤ x) (pos 0) ≡ false
not_less_behind z x y more none = Prim.grind (arith, ints, more, none)

-- what is no gain with the least difference is none with the difference itself
still_none : (lambda : Lambda) (least difference change : ℤ) → pos 1 ≤ℤ lambda.q
    → is_gain lambda least change ≡ false → least ≤ℤ difference → is_gain lambda difference change ≡ false
still_none lambda least difference change some none low =
    let more : pos 0 ≤ℤ (difference -ℤ least) = omega (arith, ints, low) in
    let times : pos 0 ≤ℤ ((lambda.q *ℤ difference) -ℤ (lambda.q *ℤ least)) = subst (λ z. pos 0 ≤ℤ z)
    (spread lambda.q difference least) (times_low lambda.q (difference -ℤ least) some more) in
    not_less (lambda.q *ℤ difference) (lambda.q *ℤ least) (lambda.p *ℤ change) times none

-- a move that is no gain with the least difference that it may make does not make the augmented cost less
pub passed_over : (model : Model) (lambda : Lambda) (penalties : Penalties) (lists : List (List ℕ)) (mv : Move) (least : ℤ)
    → pos 1 ≤ℤ lambda.q → is_gain lambda least (penalised_change model penalties lists mv) ≡ false
    → least ≤ℤ cost_change model lists mv → makes_less model lambda penalties lists mv (cost_change model lists mv) ≡ false
passed_over model lambda penalties lists mv least some none low =
    sym (makes_less_where model lambda penalties lists mv (cost_change model lists mv) (penalised_change model penalties lists mv) refl refl)
    ∙ still_none lambda least (cost_change model lists mv) (penalised_change model penalties lists mv) some none low

-- what is no gain with the most that is saved of the penalised arc costs is none with what is saved
pub none_saved : (lambda : Lambda) (difference change saved : ℤ) → pos 1 ≤ℤ lambda.p
    → is_gain lambda difference (pos 0 -ℤ saved) ≡ false → pos 0 ≤ℤ (change +ℤ saved) → is_gain lambda difference change ≡ false
none_saved lambda difference change saved some none low =
    let more : pos 0 ≤ℤ (change -ℤ (pos 0 -ℤ saved)) = omega (arith, ints, low) in
    let times : pos 0 ≤ℤ ((lambda.p *ℤ change) -ℤ (lambda.p *ℤ (pos 0 -ℤ saved))) = subst (λ z. pos 0 ≤ℤ z)
    (spread lambda.p change (pos 0 -ℤ saved)) (times_low lambda.p (change -ℤ (pos 0 -ℤ saved)) some more) in
    not_less_behind (lambda.q *ℤ difference) (lambda.p *ℤ change) (lambda.p *ℤ (pos 0 -ℤ saved)) times none

-- a difference from 0 on is no gain where nothing is saved
pub none_at_zero : (lambda : Lambda) (difference saved : ℤ) → pos 1 ≤ℤ lambda.q
    → pos 0 ≤ℤ difference → saved ≡ pos 0 → is_gain lambda difference (pos 0 -ℤ saved) ≡ false
none_at_zero lambda difference saved some low nothing =
    let times = times_low lambda.q difference some low in
    ap (λ z. int_lt ((lambda.q *ℤ difference) +ℤ (lambda.p *ℤ (pos 0 -ℤ z))) (pos 0)) nothing
    ∙ (ap (λ z. int_lt ((lambda.q *ℤ difference) +ℤ z) (pos 0)) (*ℤ-zero lambda.p) ∙ not_below (lambda.q *ℤ difference) times)
  where
    not_below : (x : ℤ) → pos 0 ≤ℤ x → int_lt (x +ℤ pos 0) (pos 0) ≡ false
    not_below x low = Prim.grind (arith, ints, low)

-- a bound on the absolute value from both sides
pub at_least : (n : ℕ) (z : ℤ) → unsigned_abs z ≤ n → neg_ℤ (pos n) ≤ℤ z
at_least n (pos m) h = omega (arith, ints, h)
at_least n (negsuc m) h = omega (arith, ints, h)

pub at_most : (n : ℕ) (z : ℤ) → unsigned_abs z ≤ n → z ≤ℤ pos n
at_most n (pos m) h = omega (arith, ints, h)
at_most n (negsuc m) h = omega (arith, ints, h)

-- what its change makes of the penalised arc costs, told in 128 bits, is what the move makes of them
pub change_read : (model : Model) (penalties : Penalties) (lists : List (List ℕ)) (mv : Move) {parts : List ListAfter} (told : ℤ)
    → IsChange model lists mv parts → unsigned_abs told ≤ 2 ^ 100
    → told ≡ penalised model penalties (changed lists parts) -ℤ penalised model penalties lists
    → to_z w128 (of_z w128 told) ≡ penalised_change model penalties lists mv
change_read model penalties lists mv told change few is =
    let low = at_least (2 ^ 100) told few in
    let high = at_most (2 ^ 100) told few in
    let as_read : to_z w128 (of_z w128 told) ≡ told = omega (arith, ints, low, high) in
    as_read ∙ (is ∙ ap (λ ls. penalised model penalties ls -ℤ penalised model penalties lists) change.lists_are)

-- after a change that a move makes the lists are those of the model
pub lists_after : (model : Model) → IsWellFormed model → (lists : List (List ℕ)) (mv : Move) {parts : List ListAfter}
    → IsTrue (is_valid model lists) → IsTrue (is_move model lists mv) → IsChange model lists mv parts → IsTrue (are_lists model (changed lists parts))
lists_after model well lists mv valid one change =
    subst (λ ls. IsTrue (are_lists model ls)) (sym change.lists_are) (moves_keep_lists model well lists mv (are-lists model lists valid) one)
