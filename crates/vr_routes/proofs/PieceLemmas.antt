-- Slices that are joined again.
use Rattle.std.proofs.Common.{◌≡◌, ◌∙◌, ℕ, zero, suc, ◌+◌, ◌-◌, ◌<◌, ◌≤◌, List, [], ◌∷◌, ◌++◌, length, refl, sym, ap, arith, take, drop, append_assoc, add-one}
use Rattle.std.proofs.Common.{length-set}
use Rattle.std.specs.Prelude.{slice_range, slice_set, insert, remove}
use Rattle.std.proofs.lemmas.Slice.{between_to_end, between_is, between_from_start}
use Rattle.std.proofs.lemmas.List.{set_split, take-append-le, drop-append-le, drop-set-lt, length-take-le, length-append}
use Rattle.std.proofs.Math.Seq.{take-append-add, drop-append-add, drop-nil}
use Rattle.vr_model.specs.moves.Moves.{chain_moved}

-- the end of a list
pub slice_to_end : (xs : List ℕ) (a : ℕ) → slice_range xs a (length xs) ≡ drop a xs
slice_to_end xs a = between_to_end xs a (length xs) (omega arith)

pub removed_is : (xs : List ℕ) (a : ℕ) → take a xs ++ drop (a + 1) xs ≡ remove xs a
removed_is xs a = ap (λ e. take a xs ++ drop e xs) (add-one a)

pub inserted_is : (xs : List ℕ) (t x : ℕ) → take t xs ++ x ∷ drop (t + 0) xs ≡ insert xs t x
inserted_is xs t x = ap (λ e. take t xs ++ x ∷ drop e xs) (let same : t + 0 ≡ t = omega arith in same)

pub replaced_is : (xs : List ℕ) (a x : ℕ) → a < length xs → take a xs ++ x ∷ drop (a + 1) xs ≡ slice_set xs a x
replaced_is xs a x low = ap (λ e. take a xs ++ x ∷ drop e xs) (add-one a) ∙ sym (set_split xs a x low)

pub drop_drop : (xs : List ℕ) (a s : ℕ) → drop s (drop a xs) ≡ drop (a + s) xs
drop_drop xs zero s = ap (λ n. drop n xs) (omega arith)
drop_drop [] (suc a) s = drop-nil s ∙ sym (drop-nil (suc a + s))
drop_drop (x ∷ xs) (suc a) s = drop_drop xs a s ∙ ap (λ n. drop n (x ∷ xs)) (let e : suc (a + s) ≡ suc a + s = omega arith in e)

pub take_of_take : (xs : List ℕ) (t a : ℕ) → t ≤ a → take t (take a xs) ≡ take t xs
take_of_take xs zero a low = refl
take_of_take xs (suc t) zero low = absurd (omega (arith, low))
take_of_take [] (suc t) (suc a) low = refl
take_of_take (x ∷ xs) (suc t) (suc a) low = ap (λ l. x ∷ l) (take_of_take xs t a (omega (arith, low)))

-- a chain is put before a place in front of it
pub put_back : (xs : List ℕ) (a k t : ℕ) → t < a → a ≤ length xs
    → take t xs ++ ((slice_range xs a (a + k) ++ slice_range xs t a) ++ drop (a + k) xs) ≡ chain_moved xs a k t
put_back xs a k t low within =
    let front : List ℕ = take a xs in
    let back : List ℕ = drop (a + k) xs in
    let chain : List ℕ = slice_range xs a (a + k) in
    let reach : t ≤ length front = omega (arith, low, length-take-le a xs within) in
    let first : take t (front ++ back) ≡ take t xs = take-append-le t front back reach ∙ take_of_take xs t a (omega (arith, low)) in
    let last : drop t (front ++ back) ≡ slice_range xs t a ++ back = drop-append-le t front back reach ∙ ap (λ l. l ++ back) (sym (between_is xs t a)) in
    ap (λ l. take t xs ++ l) (append_assoc chain (slice_range xs t a) back)
    ∙ ap (λ l. take t xs ++ (chain ++ l)) (sym last)
    ∙ ap (λ l. l ++ (chain ++ drop t (front ++ back))) (sym first)

-- a chain is put before a place behind it
pub put_on : (xs : List ℕ) (a k t : ℕ) → a ≤ t → t + k ≤ length xs
    → take a xs ++ ((slice_range xs (a + k) (t + k) ++ slice_range xs a (a + k)) ++ drop (t + k) xs) ≡ chain_moved xs a k t
put_on xs a k t low within =
    let s : ℕ = t - a in
    let front : List ℕ = take a xs in
    let back : List ℕ = drop (a + k) xs in
    let chain : List ℕ = slice_range xs a (a + k) in
    let passed : List ℕ = slice_range xs (a + k) (t + k) in
    let there : t ≡ length front + s = omega (arith, low, within, length-take-le a xs (omega (arith, low, within))) in
    let far : (t + k) - (a + k) ≡ s = omega (arith, low) in
    let end : (a + k) + s ≡ t + k = omega (arith, low) in
    let first : take t (front ++ back) ≡ front ++ passed = ap (λ n. take n (front ++ back)) there
    ∙ take-append-add front back s ∙ ap (λ n. front ++ take n back) (sym far) in
    let last : drop t (front ++ back) ≡ drop (t + k) xs = ap (λ n. drop n (front ++ back)) there
    ∙ drop-append-add front back s ∙ drop_drop xs (a + k) s ∙ ap (λ n. drop n xs) end in
    ap (λ l. front ++ l) (append_assoc passed chain (drop (t + k) xs))
    ∙ sym (append_assoc front passed (chain ++ drop (t + k) xs))
    ∙ ap (λ l. (front ++ passed) ++ (chain ++ l)) (sym last)
    ∙ ap (λ l. l ++ (chain ++ drop t (front ++ back))) (sym first)

-- two places are written
pub swap_spliced : (xs : List ℕ) (a b y x : ℕ) → a < b → b < length xs
    → take a xs ++ (((y ∷ slice_range xs (a + 1) b) ++ x ∷ []) ++ drop (b + 1) xs) ≡ slice_set (slice_set xs a y) b x
swap_spliced xs a b y x order low =
    let once : List ℕ = slice_set xs a y in
    let mid : List ℕ = slice_range xs (a + 1) b in
    let split : once ≡ take a xs ++ y ∷ drop (suc a) xs = set_split xs a y (omega (arith, order, low)) in
    let s : ℕ = b - suc a in
    let far : b ≡ length (take a xs ++ y ∷ []) + s =
    omega (arith, order, length-append (take a xs) (y ∷ []), length-take-le a xs (omega (arith, order, low))) in
    let whole : once ≡ (take a xs ++ y ∷ []) ++ drop (suc a) xs = split ∙ sym (append_assoc (take a xs) (y ∷ []) (drop (suc a) xs)) in
    let front : take b once ≡ (take a xs ++ y ∷ []) ++ mid =
    ap (take b) whole ∙ ap (λ n. take n ((take a xs ++ y ∷ []) ++ drop (suc a) xs)) far ∙ take-append-add (take a xs ++ y ∷ []) (drop (suc a) xs) s
    ∙ ap (λ e. (take a xs ++ y ∷ []) ++ slice_range xs e b) (sym (add-one a)) in
    let back : drop (suc b) once ≡ drop (suc b) xs = drop-set-lt (suc b) xs a y (omega (arith, order)) in
    ap (λ e. take a xs ++ (((y ∷ mid) ++ x ∷ []) ++ drop e xs)) (add-one b)
    ∙ ap (λ l. take a xs ++ l) (append_assoc (y ∷ mid) (x ∷ []) (drop (suc b) xs))
    ∙ sym (append_assoc (take a xs) (y ∷ mid) (x ∷ drop (suc b) xs))
    ∙ ap (λ l. l ++ x ∷ drop (suc b) xs) (sym (append_assoc (take a xs) (y ∷ []) mid))
    ∙ ap (λ l. l ++ x ∷ drop (suc b) xs) (sym front)
    ∙ ap (λ l. take b once ++ x ∷ l) (sym back)
    ∙ sym (set_split once b x (omega (arith, low, length-set xs a y)))

-- two nodes are put in
pub pair_spliced : (xs : List ℕ) (s t x y : ℕ)
    → take s xs ++ ((x ∷ (slice_range xs s t ++ y ∷ [])) ++ drop t xs) ≡ take s xs ++ (x ∷ (slice_range xs s t ++ (y ∷ drop t xs)))
pair_spliced xs s t x y = ap (λ l. take s xs ++ (x ∷ l)) (append_assoc (slice_range xs s t) (y ∷ []) (drop t xs))

-- the same of slices joined from the left
three_joined : (xs one two : List ℕ) (a e : ℕ) → ((slice_range xs 0 a ++ one) ++ two) ++ slice_range xs e (length xs) ≡ take a xs ++ ((one ++ two) ++ drop e xs)
three_joined xs one two a e =
    ap (λ l. ((l ++ one) ++ two) ++ slice_range xs e (length xs)) (between_from_start xs a)
    ∙ ap (λ l. ((take a xs ++ one) ++ two) ++ l) (slice_to_end xs e)
    ∙ ap (λ l. l ++ drop e xs) (append_assoc (take a xs) one two)
    ∙ append_assoc (take a xs) (one ++ two) (drop e xs)

pub moved_back : (xs : List ℕ) (a k t : ℕ) → t < a → a ≤ length xs
    → ((slice_range xs 0 t ++ slice_range xs a (a + k)) ++ slice_range xs t a) ++ slice_range xs (a + k) (length xs) ≡ chain_moved xs a k t
moved_back xs a k t low within = three_joined xs (slice_range xs a (a + k)) (slice_range xs t a) t (a + k) ∙ put_back xs a k t low within

pub moved_on : (xs : List ℕ) (a k t : ℕ) → a ≤ t → t + k ≤ length xs
    → ((slice_range xs 0 a ++ slice_range xs (a + k) (t + k)) ++ slice_range xs a (a + k)) ++ slice_range xs (t + k) (length xs) ≡ chain_moved xs a k t
moved_on xs a k t low within = three_joined xs (slice_range xs (a + k) (t + k)) (slice_range xs a (a + k)) a (t + k) ∙ put_on xs a k t low within

pub swapped_joined : (xs : List ℕ) (a b y x : ℕ) → a < b → b < length xs
    → ((((slice_range xs 0 a ++ y ∷ []) ++ slice_range xs (a + 1) b) ++ x ∷ []) ++ slice_range xs (b + 1) (length xs)) ≡ slice_set (slice_set xs a y) b x
swapped_joined xs a b y x order low =
    ap (λ l. (l ++ x ∷ []) ++ slice_range xs (b + 1) (length xs)) (append_assoc (slice_range xs 0 a) (y ∷ []) (slice_range xs (a + 1) b))
    ∙ three_joined xs (y ∷ slice_range xs (a + 1) b) (x ∷ []) a (b + 1) ∙ swap_spliced xs a b y x order low
