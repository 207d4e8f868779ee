use Rattle.std.proofs.Common.{◌≡◌, ◌∙◌, ◌+ℤ◌, ◌≤ℤ◌, ◌<ℤ◌, to_z, of_z, w64, ap₂, sym, arith}
use Rattle.std.specs.Prelude.{◌-ℤ◌}
use Rattle.std.specs.Int.{int_max}
use Rattle.std.proofs.lemmas.Int.{ints, clamps}
use Rattle.vr_reach.proofs.FoundLemmas.{is_behind, too_great, too_late}
use Rattle.vr_reach.proofs.SingleLemmas.{as_is}
use Rattle.vr_reach.proofs.early.earliest_behind.Goals.{After-max-next, Else-next-reached}
use Rattle.vr_reach.proofs.early.earliest_behind.Goals as goal

-- the sum that leads to the cumul, as it is read
sum : (c : After-max-next) → to_z w64 (of_z w64 (to_z w64 (of_z w64 c.args.cumul) +ℤ to_z w64 (of_z w64 c.args.transit))) ≡ c.args.cumul +ℤ c.args.transit
sum c =
    let range = c.requires.cumul in
    let least = c.requires.least in
    let greatest = c.requires.greatest in
    let first = as_is c.args.cumul (let l = range.at_least in omega (arith, ints, l)) (let h = range.at_most in omega (arith, ints, h)) in
    let way = as_is c.args.transit (omega (arith, ints, least)) (omega (arith, ints, greatest)) in
    ap₂ (λ a b. to_z w64 (of_z w64 (a +ℤ b))) first way ∙ as_is (c.args.cumul +ℤ c.args.transit)
    (let l = range.at_least in omega (arith, ints, l, least)) (let h = range.at_most in omega (arith, ints, h, greatest))

-- the cumul
value : (c : After-max-next) → c.max-next.result ≡ int_max (c.args.cumul +ℤ c.args.transit) c.args.allowed.lo
value c =
    let lo = c.requires.allowed.lo in
    c.max-next.ensures.value
    ∙ ap₂ int_max (sum c) (as_is c.args.allowed.lo (let l = lo.at_least in omega (arith, ints, l)) (let h = lo.at_most in omega (arith, ints, h)))

-- it is read as it is
read : (c : After-max-next) → to_z w64 (of_z w64 c.max-next.result) ≡ c.max-next.result
read c =
    let is = value c in
    let cumul = c.requires.cumul in
    let lo = c.requires.allowed.lo in
    let least = c.requires.least in
    let greatest = c.requires.greatest in
    omega (arith, ints, clamps, is, cumul.at_least, cumul.at_most, least, greatest, lo.at_least, lo.at_most)

pub returns-then-next-allowed-clause-known : goal.returns-then-next-allowed-clause-known
returns-then-next-allowed-clause-known c =
    let at = (goal.at.returns-then-next-allowed-clause-known c).After-max-next in
    let same = read at in
    let hi = c.requires.allowed.hi in
    let late : c.args.allowed.hi <ℤ c.max-next.result = omega (arith, ints, same, c.if-next-allowed.true, hi.at_least, hi.at_most) in
    sym (too_late c.args.cumul c.args.transit c.args.slack c.args.allowed c.max-next.result (value at) late)

pub returns-then-next-reached-clause-known : goal.returns-then-next-reached-clause-known
returns-then-next-reached-clause-known c =
    let at = (goal.at.returns-then-next-reached-clause-known c).After-max-next in
    let same = read at in
    let way = sum at in
    let is = value at in
    let lo = c.requires.allowed.lo in
    let far : c.args.slack <ℤ (c.max-next.result -ℤ (c.args.cumul +ℤ c.args.transit)) = omega (
      arith,
      ints,
      clamps,
      same,
      way,
      is,
      c.if-next-reached.true,
      c.requires.slack.at_least,
      c.requires.slack.at_most,
      c.requires.cumul.at_least,
      c.requires.cumul.at_most,
      c.requires.least,
      c.requires.greatest,
      lo.at_least,
      lo.at_most,
    ) in
    sym (too_great c.args.cumul c.args.transit c.args.slack c.args.allowed c.max-next.result is far)

-- the cumul is within what is allowed, and the slack too
near : (c : Else-next-reached) → (c.max-next.result ≤ℤ c.args.allowed.hi) × ((c.max-next.result -ℤ (c.args.cumul +ℤ c.args.transit)) ≤ℤ c.args.slack)
near c =
    let at = (goal.at.Else-next-reached c).After-max-next in
    let same = read at in
    let way = sum at in
    let is = value at in
    let cumul = c.requires.cumul in
    let slack = c.requires.slack in
    let lo = c.requires.allowed.lo in
    let hi = c.requires.allowed.hi in (
      omega (arith, ints, same, c.if-next-allowed.false, hi.at_least, hi.at_most),
      omega (
        arith,
        ints,
        clamps,
        same,
        way,
        is,
        c.if-next-reached.false,
        slack.at_least,
        slack.at_most,
        cumul.at_least,
        cumul.at_most,
        c.requires.least,
        c.requires.greatest,
        lo.at_least,
        lo.at_most,
      ),
    )

pub returns-clause-exact : goal.returns-clause-exact
returns-clause-exact c =
    let at = (goal.at.returns-clause-exact c).After-max-next in
    let same = read at in
    let within = near c in
    record { least = same ∙ value at; most = omega (arith, ints, same, within.0); slack = omega (arith, ints, same, within.1) }

pub returns-clause-known : goal.returns-clause-known
returns-clause-known c =
    let is = value (goal.at.returns-clause-known c).After-max-next in
    let within = near c in
    sym (is_behind c.args.cumul c.args.transit c.args.slack c.args.allowed c.max-next.result is within.0 within.1)
