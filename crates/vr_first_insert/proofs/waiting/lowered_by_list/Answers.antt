use Rattle.std.proofs.Common.{◌≡◌, ◌∙◌, false, arith, of_z, rules, subst, sym, to_z, w64}
use Rattle.std.proofs.lemmas.Int.{ints}
use Rattle.vr_model.specs.routes.Routes.{route}
use Rattle.vr_first_insert.specs.declared.known_best.KnownItem.{KnownItem}
use Rattle.vr_first_insert.specs.declared.known_best.KnownItem.TheVariants.{AtLeast}
use Rattle.vr_first_insert.specs.Kept.{candidate_at, unread, AreCandidatesKnown, BestAddsAtLeast}
use Rattle.vr_first_insert.proofs.BestLemmas.{first-below}
use Rattle.vr_first_insert.proofs.KeptLemmas.{known-written}
use Rattle.vr_first_insert.proofs.WaitingLemmas.{hold-unmarked, lowered-anywhere}
use Rattle.vr_first_insert.proofs.waiting.lowered_by_list.Goals as goal

pub is_marked-requires : goal.is_marked-requires
is_marked-requires c =
    let model = c.args.on.now.items.lookups.now.closed.model.now in
    let candidate = candidate_at c.args.on.now.items.candidates.now c.args.number in
    let valid = c.requires.lower.may_ask.items_are.each c.args.number unread c.requires.lower.waits.there in
    let low = first-below model candidate.item valid.item in
    let many = c.requires.lower.may_ask.marks.one_of_each in
    omega (arith, low, many)

pub adds_at_least-here-requires-clause-may_hold : goal.adds_at_least-here-requires-clause-may_hold
adds_at_least-here-requires-clause-may_hold c = λ v low.
    let model = c.args.on.now.items.lookups.now.closed.model.now in
    let candidate = candidate_at c.args.on.now.items.candidates.now c.args.number in
    let valid = c.requires.lower.may_ask.items_are.each c.args.number unread c.requires.lower.waits.there in
    hold-unmarked model c.args.on.now.lists.now c.args.marks.now candidate c.requires.lower.may_ask.built
    c.requires.lower.may_ask.marks valid (sym c.is_marked.ensures ∙ c.if-is_marked.false) v

pub returns-clause-least : goal.returns-clause-least
returns-clause-least c =
    let model = c.args.on.now.items.lookups.now.closed.model.now in
    let candidate = candidate_at c.args.on.now.items.candidates.now c.args.number in
    let least = c.min.ensures in
    let fits : to_z w64 (of_z w64 c.adds_at_least-here.result) ≡ c.adds_at_least-here.result = search rules in
    let fits_too : to_z w64 (of_z w64 c.args.least) ≡ c.args.least = search rules in
    let same : to_z w64 (of_z w64 c.min.result) ≡ c.min.result = search rules in
    lowered-anywhere model c.args.on.now.lists.now c.args.v candidate c.args.least c.adds_at_least-here.result
    (to_z w64 (of_z w64 c.min.result)) c.requires.lower.waits.least c.adds_at_least-here.ensures
    (omega (arith, ints, fits, fits_too, same, least.value, least.self_bound, least.other_bound))
    (omega (arith, ints, fits, fits_too, same, least.value, least.self_bound, least.other_bound))

pub set-requires : goal.set-requires
set-requires c =
    let many = c.requires.known.many in
    let low = c.requires.lower.waits.there in
    omega (arith, many, low)

pub returns-clause-known : goal.returns-clause-known
returns-clause-known c =
    let model = c.args.on.now.items.lookups.now.closed.model.now in
    let candidates = c.args.on.now.items.candidates.now in
    let list = route c.args.on.now.lists.now c.args.v in
    let bound = c.adds_at_least-here.result in
    let fits : to_z w64 (of_z w64 bound) ≡ bound = search rules in
    let told : KnownItem = AtLeast (record { least = to_z w64 (of_z w64 bound); searched = false }) in
    subst (AreCandidatesKnown model c.args.v list candidates) (sym c.set.ensures)
    (known-written model c.args.v list candidates c.args.known_here.now c.args.number told c.requires.known
    (subst (BestAddsAtLeast model c.args.v list (candidate_at candidates c.args.number)) (sym fits) c.adds_at_least-here.ensures))
