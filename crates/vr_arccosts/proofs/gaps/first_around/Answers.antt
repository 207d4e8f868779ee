use Rattle.std.proofs.Common.{arith}
use Rattle.std.proofs.lemmas.Int.{ints}
use Rattle.vr_arccosts.proofs.gaps.first_around.Goals as goal

pub returns-then-asked-a-clause-in_front : goal.returns-then-asked-a-clause-in_front
returns-then-asked-a-clause-in_front c t low high less = absurd (let past = c.if-asked-a.true in omega (arith, past, low, less))

pub returns-then-t-a-clause-behind : goal.returns-then-t-a-clause-behind
returns-then-t-a-clause-behind c t low high more = absurd (let under = c.if-t-a.true in omega (arith, under, high, more))

pub returns-then-asked-a-2-clause-in_front : goal.returns-then-asked-a-2-clause-in_front
returns-then-asked-a-2-clause-in_front c t low high less =
    let past = c.if-t-a.false in
    let base = c.args.put.now.sound.range in
    let least = c.first_in_front-t.ensures.no_less t low (omega (arith, past, less)) in
    omega (arith, ints, least, base.low, base.high)

pub returns-then-asked-a-2-clause-behind : goal.returns-then-asked-a-2-clause-behind
returns-then-asked-a-2-clause-behind c t low high more = absurd (let ends = c.if-asked-a-2.true in omega (arith, ends, high, more))

pub returns-clause-in_front : goal.returns-clause-in_front
returns-clause-in_front c t low high less =
    let past = c.if-t-a.false in
    let base = c.args.put.now.sound.range in
    let least = c.first_in_front-t.ensures.no_less t low (omega (arith, past, less)) in
    omega (arith, ints, least, base.low, base.high)

pub returns-clause-behind : goal.returns-clause-behind
returns-clause-behind c t low high more =
    let base = c.args.put.now.sound.range in
    let least = c.first_behind-2.ensures.no_less t (omega (arith, more)) high in
    omega (arith, ints, least, base.low, base.high)
