use Rattle.std.proofs.Common.{◌<◌, [], length, ap₂, ◌∙◌, arith}
use Rattle.std.proofs.lemmas.List.{get_or_default}
use Rattle.vr_printed.specs.Printed.{no_route}
use Rattle.vr_check.proofs.KeptLemmas.{lists_count, route_kept_at}
use Rattle.vr_check.proofs.printed.Solution.route.Goals as goal

pub invariant_of-result : goal.invariant_of-result
invariant_of-result c =
    let of = c.args.self.now in
    record {
      sound = route_kept_at of.closed.model.now of.printed.now of.lists.now of.routes.now of.sound of.closed.well_formed c.args.v c.requires
          c.as_slice.result.now c.index-lists-v.result c.index-routes-v.result c.as_slice.ensures c.index-lists-v.is c.index-routes-v.is;
    }

pub returns : goal.returns
returns c =
    let of = c.args.self.now in
    let there : c.args.v < length of.lists.now =
    omega (arith, c.requires, lists_count of.closed.model.now of.printed.now of.lists.now of.routes.now of.sound) in
    let list = c.as_slice.ensures ∙ (c.index-lists-v.is ∙ get_or_default of.lists.now c.args.v c.index-lists-v.result [] there) in
    let printed = c.index-routes-v.is ∙ get_or_default of.routes.now c.args.v c.index-routes-v.result no_route c.requires in
    ap₂ (λ list printed. record { model = of.closed.model.now; v = c.args.v; list = list; printed = printed }) list printed
