use Rattle.std.proofs.Common.{◌≡◌, ◌∙◌, ◌<◌, ℕ, List, [], arith, inl, inr, length, length-set, refl, subst, sym}
use Rattle.std.specs.Prelude.{slice_set}
use Rattle.std.proofs.lemmas.Bool.{cases_lt}
use Rattle.std.proofs.lemmas.List.{get_or_default, get_or-set_same, get_or-set_other}
use Rattle.vr_first_insert.specs.declared.waiting.WaitingItem.{WaitingItem}
use Rattle.vr_model.specs.routes.Routes.{route}
use Rattle.vr_first_insert.specs.Kept.{AreCandidatesKnown}
use Rattle.vr_first_insert.proofs.KeptLemmas.{row-written}
use Rattle.vr_first_insert.specs.Waiting.{unread_waiting, waiting_at, IsWaiting, IsWaitingElsewhere}
use Rattle.vr_rules.proofs.PlacingLemmas.{built-count, open-route}
use Rattle.vr_first_insert.proofs.RowLemmas.{kept_of}
use Rattle.vr_first_insert.proofs.WaitingLemmas.{waiting-same}
use Rattle.vr_first_insert.proofs.waiting.lower.Goals as goal

pub lowered-least-requires-clause-lower : goal.lowered-least-requires-clause-lower
lowered-least-requires-clause-lower c =
    let model = c.args.items.now.lookups.now.closed.model.now in
    let lists = c.args.lists.now in
    let many = c.loop-k.invariant.many in
    record {
      may_ask = record {
        asked = record {
          ready = λ v low. record {
            stands = open-route model lists v c.requires.lower.built.are_open low;
            kept = kept_of model lists c.args.list_rows.now c.requires.lower.kept v low;
          };
          vehicles = built-count model lists c.requires.lower.built;
        };
        items_are = c.requires.lower.items_are;
        built = c.requires.lower.built;
        marks = c.requires.lower.marks;
      };
      there = c.requires.lower.there;
      waits = c.loop-k.invariant.left c.loop-k.k (omega arith) (omega (arith, many, c.loop-k-test.true));
    }

pub lowered-least-requires-clause-known : goal.lowered-least-requires-clause-known
lowered-least-requires-clause-known c =
    let model = c.args.items.now.lookups.now.closed.model.now in
    let lists = c.args.lists.now in
    let v : ℕ = c.args.v in
    let known_items = c.loop-k.known_items in
    let known = c.loop-k.invariant.known in
    let many : length known_items ≡ length lists = known.many in
    let there = c.requires.lower.there in
    subst (AreCandidatesKnown model v (route lists v) c.args.items.now.candidates.now)
    (get_or_default known_items v [] c.index-known_items-v.result (omega (arith, many, there))) (known.each v there)

pub loop-k-preserved : goal.loop-k-preserved
loop-k-preserved c =
    let model = c.args.items.now.lookups.now.closed.model.now in
    let lists = c.args.lists.now in
    let candidates = c.args.items.now.candidates.now in
    let waiting : List WaitingItem = c.loop-k.waiting in
    let k : ℕ = c.loop-k.k in
    let before = c.loop-k.invariant in
    let same_many = before.many in
    let low : k < length waiting = omega (arith, same_many, c.loop-k-test.true) in
    let item : WaitingItem = waiting_at waiting k in
    let new : WaitingItem = record { number = item.number; least = c.lowered-least.result } in
    let many = length-set waiting k new in
    record {
      many = many ∙ before.many;
      done = λ j earlier. elim (cases_lt j k) [
        | inl less ↦
            subst (IsWaiting model lists candidates) (sym (get_or-set_other waiting k j new unread_waiting (λ e. omega (arith, less, e)))) (before.done j less)
        | inr at ↦ (let e : k ≡ j = omega (arith, earlier, at) in subst (λ j. IsWaiting model lists candidates (waiting_at (slice_set waiting k new) j)) e
            (subst (IsWaiting model lists candidates) (sym (get_or-set_same waiting k new unread_waiting low))
            (record { there = (before.left k (omega arith) low).there; least = c.lowered-least.ensures.least })))
      ];
      left = λ j from there. subst (IsWaitingElsewhere model lists c.args.v candidates)
          (sym (get_or-set_other waiting k j new unread_waiting (λ e. omega (arith, from, e))))
          (before.left j (omega (arith, from)) (omega (arith, there, many)));
      known = row-written model lists candidates c.loop-k.known_items c.args.v c.lowered-least.new.known_here before.known c.lowered-least.ensures.known;
      same = waiting-same candidates waiting k new refl ∙ before.same;
    }

pub returns-clause-waiting : goal.returns-clause-waiting
returns-clause-waiting c = λ k d low.
    subst (IsWaiting c.args.items.now.lookups.now.closed.model.now c.args.lists.now c.args.items.now.candidates.now)
    (get_or_default c.loop-k.waiting k unread_waiting d low)
    (c.loop-k.invariant.done k (let many = c.loop-k.invariant.many in omega (arith, low, many, c.loop-k-test.false)))
