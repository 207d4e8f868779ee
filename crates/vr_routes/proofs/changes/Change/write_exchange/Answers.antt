use Rattle.std.proofs.Common.{◌≡◌, ◌∙◌, ◌<◌, ℕ, List, length, sym, ap, subst, arith}
use Rattle.std.specs.Prelude.{slice_set, slice_index}
use Rattle.vr_model.specs.routes.Routes.{route}
use Rattle.vr_model.specs.declared.neighbours.Move.TheVariants.{Exchange}
use Rattle.vr_routes.specs.Changes.{IsAfter}
use Rattle.vr_routes.proofs.PieceLemmas.{replaced_is}
use Rattle.vr_routes.proofs.ChangeLemmas.{one_part, two_parts, exchanged_within, exchanged_between}
use Rattle.vr_routes.proofs.DifferLemmas.{replaced_differs, apart_between}
use Rattle.vr_routes.proofs.changes.Change.write_exchange.Goals as goal

pub swap_two-requires : goal.swap_two-requires
swap_two-requires c =
    let same : c.args.v ≡ c.args.w = c.if-v-w.true in
    record {
      vehicle = c.requires.vehicle;
      order = c.requires.behind same;
      place = subst (λ u. c.args.b < length (route c.args.routes.now.lists u)) (sym same) c.requires.other_place;
    }

pub put-requires : goal.put-requires
put-requires c = record { vehicle = c.requires.vehicle; within = omega (arith, c.requires.place) }

pub put-requires-2 : goal.put-requires-2
put-requires-2 c = record { vehicle = c.requires.other; within = omega (arith, c.requires.other_place) }

pub returns-then-v-w : goal.returns-then-v-w
returns-then-v-w c model is_one =
    let lists : List (List ℕ) = c.args.routes.now.lists in
    let v = c.args.v in
    let w = c.args.w in
    let a = c.args.a in
    let b = c.args.b in
    let x : ℕ = slice_index (route lists v) a in
    let same : v ≡ w = c.if-v-w.true in
    let low = c.requires.vehicle in
    one_part model lists (Exchange v a w b) _ v _ low c.swap_two.ensures
    (ap (λ u. slice_set lists v (slice_set (slice_set (route lists v) a (slice_index (route lists u) b)) b x)) same
    ∙ exchanged_within lists v w a b (slice_index (route lists w) b) x same low) is_one

pub returns : goal.returns
returns c model is_one =
    let lists : List (List ℕ) = c.args.routes.now.lists in
    let v = c.args.v in
    let w = c.args.w in
    let a = c.args.a in
    let b = c.args.b in
    let test = c.requires in
    let y : ℕ = slice_index (route lists w) b in
    let x : ℕ = slice_index (route lists v) a in
    two_parts model lists (Exchange v a w b) _ _ v w _ _ test.vehicle test.other c.if-v-w.false
    (subst (IsAfter lists c.put.new.self v) (replaced_is (route lists v) a c.node_at.result test.place) c.put.ensures)
    (subst (IsAfter lists c.put-2.new.self w) (replaced_is (route lists w) b c.node_at-2.result test.other_place) c.put-2.ensures)
    (ap (λ z. slice_set (slice_set lists v (slice_set (route lists v) a z)) w (slice_set (route lists w) b c.node_at-2.result)) c.node_at.ensures
    ∙ ap (λ z. slice_set (slice_set lists v (slice_set (route lists v) a y)) w (slice_set (route lists w) b z)) c.node_at-2.ensures
    ∙ exchanged_between lists v w b x (slice_set (route lists v) a y) c.if-v-w.false)
    (λ are. replaced_differs (route lists v) a c.node_at.result test.place
    (λ e. apart_between model lists are v w a b c.if-v-w.false test.place test.other_place (sym e ∙ c.node_at.ensures)))
    (λ are. replaced_differs (route lists w) b c.node_at-2.result test.other_place
    (λ e. apart_between model lists are v w a b c.if-v-w.false test.place test.other_place (sym c.node_at-2.ensures ∙ e)))
