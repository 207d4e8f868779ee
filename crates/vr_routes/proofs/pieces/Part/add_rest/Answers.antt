use Rattle.std.proofs.Common.{◌∙◌, ◌+◌, ◌-◌, ◌++◌, ℕ, List, subst, ap, sym, arith, append_assoc}
use Rattle.std.specs.Prelude.{slice_range}
use Rattle.vr_model.specs.routes.Routes.{route}
use Rattle.vr_routes.specs.Changes.{IsPartBegun}
use Rattle.vr_routes.specs.Pairs.{is_past}
use Rattle.vr_routes.proofs.RestLemmas.{rest_slices, few_pieces}
use Rattle.vr_routes.proofs.pieces.Part.add_rest.Goals as goal

pub returns-clause-room : goal.returns-clause-room
returns-clause-room c =
    let on = c.args.at in
    let a = c.args in
    let one = c.some_chain.ensures.room in
    let two = c.some_chain-2.ensures.room in
    let three = c.some_chain-3.ensures.room in
    let first = ap (λ r. is_past a.i r) c.least.ensures in
    let second = ap (λ r. is_past (r + 1) (c.least-2.result + 1)) c.greatest.ensures
    ∙ ap (λ r. is_past ((a.i + (on.pickup - a.i)) + 1) (r + 1)) c.least-2.ensures in
    let third = ap (λ r. is_past (r + 2) (a.j + 2)) c.greatest-2.ensures in
    let few = few_pieces on.pickup on.delivery a.i a.j c.requires.order c.requires.places in
    omega (arith, one, two, three, first, second, third, few)

pub returns-clause-after : goal.returns-clause-after
returns-clause-after c lists w front list two gap before =
    let on = c.args.at in
    let a = c.args in
    let row : List ℕ = route lists on.vehicle in
    let low = two.vehicle in
    let r1 = c.least.ensures in
    let r2 = c.least-2.ensures in
    let s1 = c.some_chain.ensures.after lists w front list low (omega (arith, r1, gap)) before in
    let s2 = c.some_chain-2.ensures.after lists w front (list ++ slice_range row a.i c.least.result) low (omega (arith, r2, gap)) s1 in
    let s3 = c.some_chain-3.ensures.after lists w front
    ((list ++ slice_range row a.i c.least.result) ++ slice_range row (c.greatest.result + 1) (c.least-2.result + 1)) low gap s2 in
    subst (IsPartBegun lists c.some_chain-3.new.self w front) (
    append_assoc (list ++ slice_range row a.i c.least.result)
    (slice_range row (c.greatest.result + 1) (c.least-2.result + 1)) (slice_range row (c.greatest-2.result + 2) (a.j + 2))
    ∙ append_assoc list (slice_range row a.i c.least.result)
    (slice_range row (c.greatest.result + 1) (c.least-2.result + 1) ++ slice_range row (c.greatest-2.result + 2) (a.j + 2))
    ∙ ap (λ l. list ++ l) (
    ap (λ r. slice_range row a.i r
    ++ (slice_range row (c.greatest.result + 1) (c.least-2.result + 1) ++ slice_range row (c.greatest-2.result + 2) (a.j + 2))) c.least.ensures
    ∙ ap (λ r. slice_range row a.i (a.j - (a.j - on.pickup))
    ++ (slice_range row (r + 1) (c.least-2.result + 1) ++ slice_range row (c.greatest-2.result + 2) (a.j + 2))) c.greatest.ensures
    ∙ ap (λ r. slice_range row a.i (a.j - (a.j - on.pickup))
    ++ (slice_range row ((a.i + (on.pickup - a.i)) + 1) (r + 1) ++ slice_range row (c.greatest-2.result + 2) (a.j + 2))) c.least-2.ensures
    ∙ ap (λ r. slice_range row a.i (a.j - (a.j - on.pickup))
    ++ (slice_range row ((a.i + (on.pickup - a.i)) + 1) ((a.j - (a.j - (on.delivery - 1))) + 1) ++ slice_range row (r + 2) (a.j + 2))) c.greatest-2.ensures
    ∙ sym (rest_slices row on.pickup on.delivery a.i a.j c.requires.order two.place c.requires.places))) s3
