use Rattle.std.proofs.Common.{length, sym, ap, subst, ◌∙◌}
use Rattle.std.specs.Prelude.{IsTrue}
use Rattle.std.proofs.lemmas.List.{length-map}
use Rattle.vr_printed.specs.Printed.{lists_of, visits_of}
use Rattle.vr_printed.specs.Shape.{are_routes_shaped}
use Rattle.vr_printed.proofs.Shaped.{routes_count}
use Rattle.vr_check.proofs.PrintedLists.{HasVisits, ends_visits}
use Rattle.vr_check.proofs.Valid.{lists_are}
use Rattle.vr_check.proofs.checking.lists_finding.Goals as goal

pub invariant_of-solution : goal.invariant_of-solution
invariant_of-solution c =
    let model = c.args.closed.model.now in
    let routes = c.as_slice-routes.result.now in
    let read = c.as_slice-routes.ensures in
    let shaped = subst (λ routes. IsTrue (are_routes_shaped model routes)) (sym read) c.requires.shaped in
    let lists = c.requires.lists ∙ ap lists_of (sym read) in
    let visits = subst (HasVisits model) (sym lists) (ends_visits model routes (sym c.wrong_ends.ensures ∙ c.in_default.is)) in
    let count = ap length lists ∙ length-map routes visits_of ∙ routes_count model routes shaped in
    let valid = lists_are model c.args.lists.now count visits (sym c.repeated.ensures ∙ c.in_default-repeated.is) in
    record {
      sound = record {
        routes_are = read;
        lists_are = lists;
        visits = valid;
        shaped = shaped;
      };
    }
