use Rattle.std.proofs.Common.{◌∙◌, ◌+◌, ℕ, List, length-append, ap, sym, subst, arith}
use Rattle.vr_model.proofs.routes.Lists.{are-lists, are_lists-count}
use Rattle.vr_model.specs.tables.Tables.{no_vehicle, vehicle_at}
use Rattle.vr_model.specs.declared.records.Vehicle.{Vehicle}
use Rattle.vr_model.specs.routes.Routes.{route}
use Rattle.vr_costfilter.specs.Kept.{HasRoom, IsKept}
use Rattle.vr_costfilter.specs.declared.kept.KeptList.{KeptList}
use Rattle.vr_parts.proofs.RowLemmas.{each-push}
use Rattle.vr_costfilter.proofs.KnownLemmas.{tour-of}
use Rattle.vr_costfilter.proofs.PartLemmas.{list-of}
use Rattle.vr_costfilter.proofs.kept.KeptCumuls.open.Goals as goal

pub get-requires : goal.get-requires
get-requires c =
    let many = are_lists-count c.args.closed.model.now c.args.routes.now.lists (are-lists c.args.closed.model.now c.args.routes.now.lists c.requires.valid) in
    omega (arith, many, c.vehicles-v-end.ensures.value, c.loop-v-test.true)

pub invariant_of-tour : goal.invariant_of-tour
invariant_of-tour c =
    let m = c.args.closed.model.now in
    let lists : List (List ℕ) = c.args.routes.now.lists in
    let many = are_lists-count m lists (are-lists m lists c.requires.valid) in
    record {
      sound = tour-of m c.loop-v.v (route lists c.loop-v.v) (omega (arith, many, c.vehicles-v-end.ensures.value, c.loop-v-test.true))
          (list-of m c.args.closed.well_formed lists c.requires.valid c.loop-v.v) c.list.result.now c.list.ensures.value;
    }

pub loop-v-preserved : goal.loop-v-preserved
loop-v-preserved c =
    let i = c.loop-v.invariant in
    let m = c.args.closed.model.now in
    let lists : List (List ℕ) = c.args.routes.now.lists in
    let P = λ (v : ℕ) (kept : KeptList). IsKept m c.args.d v (route lists v) kept in
    let R = λ (v : ℕ) (kept : KeptList). HasRoom (vehicle_at m v).schedule kept in
    let new = c.write_list.new.kept in
    let is = subst (λ l. IsKept m c.args.d c.loop-v.v l new) c.list.ensures.value c.write_list.ensures.kept in
    let room : HasRoom (vehicle_at m c.loop-v.v).schedule new =
    c.write_list.ensures.room
    ∙ subst (λ (w : Vehicle). HasRoom w.schedule c.in_ok-kept.kept) (sym (c.get.ensures.value no_vehicle)) c.in_ok-kept.ensures.room in
    rw c.in_ok-push.ensures.items (record {
      many = length-append c.loop-v.lists.items _ ∙ ap (λ n. n + 1) i.many;
      each = λ v other low. each-push P c.loop-v.lists.items new i.each (subst (λ n. P n new) (sym i.many) is) v other low;
      room = λ v other low. each-push R c.loop-v.lists.items new i.room (subst (λ n. R n new) (sym i.many) room) v other low;
    })
