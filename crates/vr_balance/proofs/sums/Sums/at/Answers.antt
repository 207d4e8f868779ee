use Rattle.std.proofs.Common.{◌∙◌, ap, sym, subst, arith, to_z, of_z, w64}
use Rattle.vr_model.specs.tables.Numbers.{number_at}
use Rattle.vr_balance.specs.Sums.{IsUpTo}
use Rattle.vr_balance.proofs.Paths.{read-up}
use Rattle.vr_balance.proofs.sums.Sums.at.Goals as goal

pub returns-clause-value : goal.returns-clause-value
returns-clause-value c =
    let h = c.requires.range in
    let low = c.requires.place in
    let few = h.few in
    let same = ap (λ l. number_at l c.args.place) (c.deref.ensures.0 ∙ c.self.view_is) in
    ap (λ x. to_z w64 (of_z w64 x)) same ∙ read-up c.args.place (number_at c.args.self.now c.args.place) (h.each c.args.place low) (omega (arith, few, low))

pub returns-clause-range : goal.returns-clause-range
returns-clause-range c = subst (IsUpTo c.args.place) (sym (returns-clause-value c)) (c.requires.range.each c.args.place c.requires.place)
