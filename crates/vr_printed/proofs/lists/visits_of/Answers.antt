use Rattle.std.proofs.Common.{◌≡◌, ◌<◌, ◌≤◌, ◌∙◌, ℕ, List, length, ◌+◌, ◌-◌, ◌++◌, ◌∷◌, [], take, drop, get_or, ap, sym, inl, inr, arith}
use Rattle.std.proofs.lemmas.Bool.{cases_lt}
use Rattle.std.proofs.lemmas.List.{take_more, take_all, get_or-drop, length-drop}
use Rattle.vr_printed.proofs.lists.visits_of.Goals as goal

one_more : (nodes : List ℕ) (k : ℕ) → 2 ≤ k → k < length nodes → take (k - 2) (drop 1 nodes) ++ get_or nodes (k - 1) 0 ∷ [] ≡ take ((k + 1) - 2) (drop 1 nodes)
one_more nodes k low high =
    let place : 1 + (k - 2) ≡ k - 1 = omega (arith, low) in
    let next : (k + 1) - 2 ≡ (k - 2) + 1 = omega (arith, low) in
    let node : get_or nodes (k - 1) 0 ≡ get_or (drop 1 nodes) (k - 2) 0 = ap (λ i. get_or nodes i 0) (sym place) ∙ sym (get_or-drop 1 nodes (k - 2) 0) in
    ap (λ x. take (k - 2) (drop 1 nodes) ++ x ∷ []) node
    ∙ sym (take_more (drop 1 nodes) (k - 2) 0 (omega (arith, low, high, length-drop 1 nodes))) ∙ ap (λ n. take n (drop 1 nodes)) (sym next)

all_taken : (nodes : List ℕ) (k : ℕ) → 2 ≤ k → (2 ≤ length nodes → k ≤ length nodes)
    → length nodes ≤ k → take (k - 2) (drop 1 nodes) ≡ take (length nodes - 2) (drop 1 nodes)
all_taken nodes k low within high = elim (cases_lt (length nodes) 2) [
  | inl short ↦ take_all (k - 2) (drop 1 nodes) (omega (arith, short, length-drop 1 nodes))
      ∙ sym (take_all (length nodes - 2) (drop 1 nodes) (omega (arith, short, length-drop 1 nodes)))
  | inr long ↦ (let e : k ≡ length nodes = omega (arith, within long, high) in ap (λ n. take (n - 2) (drop 1 nodes)) e)
]

pub loop-k-preserved : goal.loop-k-preserved
loop-k-preserved c =
    let node = get_or c.args.nodes.now (c.loop-k.k - 1) 0 in
    c.in_ok-push.ensures.ok ∙ ap (λ list. list ++ node ∷ []) c.loop-k.invariant
    ∙ one_more c.args.nodes.now c.loop-k.k (omega (arith, c.loop-k.auto.k)) c.loop-k-test.true

pub returns : goal.returns
returns c = c.loop-k.invariant ∙ all_taken c.args.nodes.now c.loop-k.k c.loop-k.auto.k c.loop-k.auto.k-end c.loop-k-test.false
