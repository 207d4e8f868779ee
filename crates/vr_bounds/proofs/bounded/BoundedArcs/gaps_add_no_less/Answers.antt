use Rattle.std.proofs.Common.{◌≡◌, ◌∙◌, ◌<◌, ℕ, List, length, length-set, w64, to_z, of_z, ap, sym, subst, arith}
use Rattle.std.proofs.lemmas.Int.{ints}
use Rattle.vr_model.specs.declared.records.Model.{Model}
use Rattle.vr_model.specs.routes.Routes.{route}
use Rattle.vr_bounds.specs.Kept.{IsUpTo, StandsBounded}
use Rattle.vr_bounds.proofs.KeptLemmas.{puts-at, puts-set}
use Rattle.vr_bounds.proofs.bounded.BoundedArcs.gaps_add_no_less.Goals as goal

pub returns-clause-no_less : goal.returns-clause-no_less
returns-clause-no_less c told place low =
    let lists : List (List ℕ) = c.args.routes.now.lists in
    let w = c.args.w in
    let h = subst (λ k. StandsBounded k c.args.routes.now) (sym c.self.view_is) c.requires.stands in
    let known : w < length lists = (let under = c.if-w-vehicles.false in let n = c.vehicles.ensures.value in omega (arith, under, n)) in
    let at = puts-at c.self.inside.model.now lists c.self.inside.puts.items w c.index_mut.result.now h.puts h.many known c.index_mut.ensures.value in
    let model : Model = c.args.self.now.model in
    let bound = to_z w64 (of_z w64 c.args.bound) in
    let read : bound ≡ c.args.bound = omega (arith, ints, c.ranges.bound) in
    let all = subst (λ (m : Model). IsUpTo m w (route lists w) c.args.node bound) (ap (λ k. k.model) c.self.view_is)
    (subst (λ (row : List ℕ). IsUpTo c.self.inside.model.now w row c.args.node bound) at.row (c.reach.ensures.no_less told)) in
    let least = all place low in
    omega (arith, ints, least, read)

pub returns-clause-stands : goal.returns-clause-stands
returns-clause-stands c =
    let lists : List (List ℕ) = c.args.routes.now.lists in
    let w = c.args.w in
    let h = subst (λ k. StandsBounded k c.args.routes.now) (sym c.self.view_is) c.requires.stands in
    let known : w < length lists = (let under = c.if-w-vehicles.false in let n = c.vehicles.ensures.value in omega (arith, under, n)) in
    let many = h.many in
    let at = puts-at c.self.inside.model.now lists c.self.inside.puts.items w c.index_mut.result.now h.puts many known c.index_mut.ensures.value in
    record {
      arcs_model = h.arcs_model;
      arcs = h.arcs;
      many = length-set c.self.inside.puts.items w c.reach.new.self ∙ many;
      puts = puts-set c.self.inside.model.now lists c.self.inside.puts.items w c.reach.new.self h.puts (omega (arith, many, known))
          (record { row = c.reach.ensures.row ∙ at.row; kept = c.reach.ensures.puts });
    }
