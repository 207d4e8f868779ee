use Rattle.std.proofs.Common.{◌≡◌, ℕ, List, Bor, map, take}
use Rattle.vr_samples.proofs.routes.seqs_of.Given as goal

abbrev pub invariant-loop-list : goal.invariant-loop-list
invariant-loop-list l = l.seqs.items ≡ take l.list-index (map (λ (list : Bor (List ℕ)). list.now) l.lists)
