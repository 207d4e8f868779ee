use Rattle.std.proofs.Common.{◌≡◌, ◌∙◌, arith, to_z, of_z, w64}
use Rattle.std.specs.Prelude.{slice_index_or, ◌+ℤ◌, ◌-ℤ◌}
use Rattle.std.proofs.lemmas.Int.{ints}
use Rattle.std.proofs.lemmas.List.Elements.{All-get_or}
use Rattle.vr_model.specs.tables.Tables.{arc_cost}
use Rattle.vr_model.specs.routes.Routes.{route}
use Rattle.vr_first_savings.specs.RouteEnds.{ends_of, no_ends, AreRouteEnds}
use Rattle.vr_first_savings.proofs.EndLemmas.{ends_read}
use Rattle.vr_first_savings.proofs.joins.choice_at.Goals as goal

pub saved-requires-clause-front : goal.saved-requires-clause-front
saved-requires-clause-front c = All-get_or (AreRouteEnds c.args.closed.model.now) c.args.ends.now c.args.i no_ends c.requires.front c.requires.ends

pub saved-requires-clause-back : goal.saved-requires-clause-back
saved-requires-clause-back c = All-get_or (AreRouteEnds c.args.closed.model.now) c.args.ends.now c.args.j no_ends c.requires.back c.requires.ends

pub returns : goal.returns
returns c = λ routes are.
    let model = c.args.closed.model.now in
    let front : slice_index_or c.args.ends.now c.args.i no_ends ≡ ends_of model (route routes c.args.i) = ends_read model
    routes c.args.ends.now c.args.i are c.requires.front in
    let back : slice_index_or c.args.ends.now c.args.j no_ends ≡ ends_of model (route routes c.args.j) = ends_read model
    routes c.args.ends.now c.args.j are c.requires.back in
    let fits : to_z w64 (of_z w64 c.saved.result) ≡ c.saved.result = omega (arith, ints, c.saved.ensures.low, c.saved.ensures.high) in
    λ t. record {
      front = c.args.i;
      back = c.args.j;
      saving = (fits ∙ c.saved.ensures.value ∙ (λ u. ((front u).to_end +ℤ (back u).from_start) -ℤ arc_cost model 0 (front u).last (back u).first)) t;
      last = (front t).last;
      first = (back t).first;
    }
