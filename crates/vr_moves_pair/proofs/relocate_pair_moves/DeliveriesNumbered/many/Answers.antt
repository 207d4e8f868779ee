use Rattle.std.proofs.Common.{◌≡◌, ◌∙◌, ◌-◌, ◌<◌, ◌≤◌, ℕ, true, sym, subst, arith}
use Rattle.vr_moves_pair.proofs.OwnLemmas.{many_but_own, many_others, passes, passes_but}
use Rattle.vr_moves_pair.proofs.relocate_pair_moves.DeliveriesNumbered.many.Goals as goal
use Rattle.vr_moves_pair.proofs.relocate_pair_moves.DeliveriesNumbered.many.Goals.{then-own-from-via-then-own-from, then-own-from-via-else-own-from+then-own-to}
use Rattle.vr_moves_pair.proofs.relocate_pair_moves.DeliveriesNumbered.many.Goals.{then-own-from-via-else-own-from+else-own-to+then-has}

pub returns-then-own-from : goal.returns-then-own-from
returns-then-own-from c =
    let m = c.args.self.now in
    let own : (t : ℕ) → c.args.from ≤ t → t < c.args.to → t ≡ m.at.delivery - 1 → passes m.at.vehicle m.at.pickup m.at.delivery m.w m.s t ≡ true =
    λ t low high same. elim c.then-own-from.branch [
      | then-own-from-via-then-own-from w ↦ absurd (let less = w.if-own-from.true in omega (arith, low, same, less))
      | then-own-from-via-else-own-from+then-own-to w ↦ absurd (let more = w.if-own-to.true in omega (arith, high, same, more))
      | then-own-from-via-else-own-from+else-own-to+then-has w ↦
          subst (λ t. passes m.at.vehicle m.at.pickup m.at.delivery m.w m.s t ≡ true) (sym same) (sym w.has.ensures ∙ w.if-has.true)
    ] in
    sym (many_others m.at.vehicle m.at.pickup m.at.delivery m.w m.s c.args.from c.args.to
    (passes_but m.at.vehicle m.at.pickup m.at.delivery m.w m.s c.args.from c.args.to own))

pub returns : goal.returns
returns c =
    let m = c.args.self.now in
    sym (many_but_own m.at.vehicle m.at.pickup m.at.delivery m.w m.s c.args.from c.args.to
    (let low = c.if-own-from.false in omega (arith, low)) (let high = c.if-own-to.false in omega (arith, high)) (sym c.has.ensures ∙ c.if-has.false))
