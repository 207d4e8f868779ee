use Rattle.std.proofs.Common.{ℕ, w64, to_z, of_z, ◌≡◌, ◌≤◌, length, inl, inr, subst, arith}
use Rattle.std.proofs.lemmas.Bool.{cases_lt}
use Rattle.std.proofs.lemmas.Int.{ints}
use Rattle.std.specs.Prelude.{ℤ, ◌≤ℤ◌}
use Rattle.vr_arccosts.specs.Runs.{gap_added}
use Rattle.vr_bounds.proofs.puts.Puts.lowered.Goals as goal

pub loop-place-preserved : goal.loop-place-preserved
loop-place-preserved c =
    let i = c.loop-place.invariant in
    let at = c.loop-place.place in
    let new = c.lowered_at-least in
    let gap : ℕ → ℤ = gap_added c.args.driver.closed.model.now c.args.driver.vehicle c.args.self.now.row c.args.node c.args.node in
    let read : to_z w64 (of_z w64 new.result) ≡ new.result = omega (arith, ints, new.type_inv) in
    let less = new.ensures.no_more in
    let within : at ≤ length c.args.self.now.row = (let last = c.loop-place-test.true in let end = c.len-place-end.ensures.value in omega (arith, last, end)) in
    let here : new.result ≤ℤ gap at = new.ensures.here (i.rest at within) in
    record {
      done = λ place low. elim (cases_lt place at) [
        | inl before ↦ (let old = i.done place before in omega (arith, ints, read, less, old))
        | inr past ↦ (let same : at ≡ place = omega (arith, low, past) in
            subst (λ k. to_z w64 (of_z w64 new.result) ≤ℤ gap k) same (omega (arith, ints, read, here)))
      ];
      rest = λ place low older. (let old = i.rest place low older in omega (arith, ints, read, less, old));
    }
