use Rattle.std.proofs.Common.{◌≡◌, ◌∙◌, ℕ, [], ◌+◌, ap, length}
use Rattle.std.proofs.lemmas.List.{length-append}
use Rattle.vr_reach.proofs.Tables.{each_push}
use Rattle.vr_ruin.specs.declared.known.KnownRoute.{KnownRoute}
use Rattle.vr_ruin.proofs.trial.known_routes.Goals as goal

pub loop-v-preserved : goal.loop-v-preserved
loop-v-preserved c =
    let m = c.loop-v.invariant in
    let Empty = λ (v : ℕ) (route : KnownRoute). route.nodes ≡ [] in
    let Long = λ (v : ℕ) (route : KnownRoute). length route.rows.items ≡ c.args.dimensions in
    rw c.in_ok-push.ensures.items (record {
      long = length-append c.loop-v.routes.items _ ∙ ap (λ n. n + 1) m.long;
      none = λ v other low. each_push Empty c.loop-v.routes.items c.in_ok-open.field-0 m.none c.in_ok-open.ensures.nodes v other low;
      rows = λ v other low. each_push Long c.loop-v.routes.items c.in_ok-open.field-0 m.rows c.in_ok-open.ensures.rows v other low;
    })
