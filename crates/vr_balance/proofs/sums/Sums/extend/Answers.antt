use Rattle.std.proofs.Common.{◌≡◌, ◌∙◌, ◌-◌, ◌++◌, ◌∷◌, [], ap, arith, length, to_z, of_z, w64, refl}
use Rattle.std.proofs.lemmas.Int.{ints}
use Rattle.std.specs.Prelude.{◌+ℤ◌}
use Rattle.vr_model.specs.tables.Numbers.{number_at}
use Rattle.vr_balance.proofs.Paths.{sums-more}
use Rattle.vr_balance.proofs.sums.Sums.extend.Goals as goal

pub returns : goal.returns
returns c f first nodes n h low arc =
    let sums = c.args.self.now in
    let up = c.requires.value in
    let a = c.at.ensures in
    let room = c.requires.room in
    let many = h.many in
    let len = c.len.ensures.value ∙ ap length c.self.view_is in
    let last : c.len.result - 1 ≡ n = omega (arith, len, many) in
    let here : c.at.result ≡ number_at sums n = a.value ∙ ap (number_at sums) last in
    let read : to_z w64 (of_z w64 (to_z w64 (of_z w64 c.at.result) +ℤ to_z w64 (of_z w64 c.args.value))) ≡ number_at sums n +ℤ c.args.value =
    omega (arith, ints, here, a.range.low, a.range.high, up.low, up.high, last, many, room) in
    sums-more sums c.push.new.self.items (number_at sums n +ℤ c.args.value)
    (c.push.ensures.items ∙ (ap (λ z. c.self.inside.items.items ++ z ∷ []) read ∙ ap (λ l. l ++ (number_at sums n +ℤ c.args.value) ∷ []) c.self.view_is))
    f first nodes n c.args.value h low room up arc refl
