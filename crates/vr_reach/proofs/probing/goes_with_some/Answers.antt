use Rattle.std.proofs.Common.{◌≡◌, ◌∙◌, ◌+◌, ◌-◌, ◌*◌, ◌≤◌, length, refl, subst, sym, arith, inl, inr}
use Rattle.std.proofs.lemmas.Bool.{cases_lt, false≢true}
use Rattle.vr_reach.specs.Alone.{GoesAlone}
use Rattle.vr_reach.proofs.TryLemmas.{some_tries, try_more}
use Rattle.vr_reach.specs.RunWalks.{line_along}
use Rattle.vr_reach.proofs.probing.goes_with_some.Goals as goal

pub returns-then-goes_with-clause-count : goal.returns-then-goes_with-clause-count
returns-then-goes_with-clause-count g c =
    let b = length (line_along c.args.walk.now).breaks in
    let n = c.args.walk.now.last - c.args.walk.now.begin in
    let k = c.loop-taken.taken in
    let levels = c.args.walk.now.begun.form.one_more in
    let few : k ≤ b = omega (arith, levels) in
    some_tries b k n c.args.tries.now few (try_more b k n c.args.tries.now c.loop-taken.invariant.some c.loop-taken.invariant.count c.goes_with.ensures.count)

pub loop-taken-preserved : goal.loop-taken-preserved
loop-taken-preserved g c =
    let b = length (line_along c.args.walk.now).breaks in
    let n = c.args.walk.now.last - c.args.walk.now.begin in
    let k = c.loop-taken.taken in
    let next : k + 1 - 1 ≡ k = omega arith in
    record {
      some = omega arith;
      none = λ i low less goes. elim (cases_lt i k) [
        | inl before ↦ c.loop-taken.invariant.none i low before goes
        | inr past ↦ (
            let here : i ≡ k = omega (arith, less, past) in
            false≢true (sym c.if-goes_with.false ∙ c.goes_with.ensures.exact.1
            (subst (GoesAlone (line_along c.args.walk.now) c.args.walk.now.from.now c.args.walk.now.to.now c.args.walk.now.begin c.args.walk.now.last)
            here goes))
            )
      ];
      count = subst (λ i. c.goes_with.new.tries ≤ c.args.tries.now + i * n) (sym next)
          (try_more b k n c.args.tries.now c.loop-taken.invariant.some c.loop-taken.invariant.count c.goes_with.ensures.count);
    }

pub returns-clause-count : goal.returns-clause-count
returns-clause-count g c =
    let b = length (line_along c.args.walk.now).breaks in
    let n = c.args.walk.now.last - c.args.walk.now.begin in
    let levels = c.args.walk.now.begun.form.one_more in
    let few : c.loop-taken.taken - 1 ≤ b = omega (arith, levels) in
    some_tries b (c.loop-taken.taken - 1) n c.args.tries.now few c.loop-taken.invariant.count

pub loop-taken-init : goal.loop-taken-init
loop-taken-init g c = record { some = omega arith; none = λ i low less goes. absurd (omega (arith, low, less)); count = omega arith }

pub returns-then-goes_with-clause-exact : goal.returns-then-goes_with-clause-exact
returns-then-goes_with-clause-exact g c =
    let levels = c.args.walk.now.begun.form.one_more in
    (λ t. (c.loop-taken.taken, c.loop-taken.invariant.some, omega (arith, levels), c.goes_with.ensures.exact.0 c.if-goes_with.true), λ m. refl)

pub returns-clause-exact : goal.returns-clause-exact
returns-clause-exact g c =
    let levels = c.args.walk.now.begun.form.one_more in
    let done = c.loop-taken-test.false in
    let n = c.len-taken-end.ensures in
    (λ t. absurd (false≢true t), λ m. absurd (c.loop-taken.invariant.none m.0 m.1 (let few = m.2 in omega (arith, levels, done, n, few)) m.3))
