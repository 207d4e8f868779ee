-- Drawing again and again: what was drawn, and what is left to draw.
use Rattle.std.proofs.Common.{◌≡◌, ℕ, zero, suc, ◌+◌, ◌-◌, ◌<◌, ◌≤◌, List, [], ◌∷◌, ◌++◌, refl, sym, subst, ap, ◌∙◌, append_assoc, append-nil, length, arith}
use Rattle.rand_pcg.specs.Lcg.{Lcg}
use Rattle.vr_gen.specs.Draws.{repeated}

-- these were drawn, so many are left to draw from here, and that gives all
pub record Goes {A : Type 0} (next : Lcg → A × Lcg) (drawn : List A) (left : ℕ) (words : Lcg) (all : List A × Lcg) : Type 0 where
  pub items : drawn ++ (repeated next left words).0 ≡ all.0
  pub words_then : (repeated next left words).1 ≡ all.1

pub begins : {A : Type 0} (next : Lcg → A × Lcg) (n : ℕ) (words : Lcg) → Goes next [] n words (repeated next n words)
begins next n words = record { items = refl; words_then = refl }

pub goes_on : {A : Type 0} (next : Lcg → A × Lcg) (drawn : List A) (n k : ℕ) (words : Lcg) (all : List A × Lcg) → k < n
    → Goes next drawn (n - k) words all → Goes next (drawn ++ (next words).0 ∷ []) (n - (k + 1)) (next words).1 all
goes_on next drawn n k words all low h =
    let e : n - k ≡ suc (n - (k + 1)) = omega (arith, low) in
    let g = subst (λ m. Goes next drawn m words all) e h in
    record {
      items = append_assoc drawn ((next words).0 ∷ []) (repeated next (n - (k + 1)) (next words).1).0 ∙ g.items;
      words_then = g.words_then;
    }

-- one more was drawn, and stands behind those so far
pub drawn_on : {A : Type 0} (next : Lcg → A × Lcg) (drawn longer : List A) (n k : ℕ) (words later : Lcg) {x : A} (all : List A × Lcg)
    → (x, later) ≡ next words → longer ≡ drawn ++ x ∷ [] → k < n → Goes next drawn (n - k) words all → Goes next longer (n - (k + 1)) later all
drawn_on next drawn longer n k words later all here behind low h =
    let is : longer ≡ drawn ++ (next words).0 ∷ [] = behind ∙ ap (λ p. drawn ++ p.0 ∷ []) here in
    let there : later ≡ (next words).1 = ap (λ p. p.1) here in
    subst (λ s. Goes next s (n - (k + 1)) later all) (sym is)
    (subst (λ w. Goes next (drawn ++ (next words).0 ∷ []) (n - (k + 1)) w all) (sym there) (goes_on next drawn n k words all low h))

pub stops : {A : Type 0} (next : Lcg → A × Lcg) (drawn : List A) (n k : ℕ) (words : Lcg) (all : List A × Lcg)
    → n ≤ k → Goes next drawn (n - k) words all → (drawn, words) ≡ all
stops next drawn n k words all high h =
    let e : n - k ≡ 0 = omega (arith, high) in
    let g = subst (λ m. Goes next drawn m words all) e h in
    let x : drawn ≡ all.0 = sym (append-nil drawn) ∙ g.items in
    let y : words ≡ all.1 = g.words_then in
    λ i. (x i, y i)

pub length_repeated : {A : Type 0} (next : Lcg → A × Lcg) (n : ℕ) (words : Lcg) → length (repeated next n words).0 ≡ n
length_repeated next zero words = refl
length_repeated next (suc n) words = ap suc (length_repeated next n (next words).1)
