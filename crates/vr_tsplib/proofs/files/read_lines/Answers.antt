use Rattle.std.proofs.Common.{◌≡◌, ◌==◌, ◌+◌, ◌<◌, ◌∷◌, ◌++◌, [], ℕ, Ok, Err, length, length-append, get_or, drop, refl, sym, ap, ◌∙◌, arith, rules, tests}
use Rattle.std.specs.List.{slice_split}
use Rattle.std.proofs.lemmas.Iterator.Consumers.{YieldsList-at, YieldsList-end, YieldsList-turn}
use Rattle.std.proofs.lemmas.Iterator.Splits.{YieldsList-from_slice_split}
use Rattle.vr_json.proofs.Steps.{stops}
use Rattle.vr_tsplib.specs.Files.{read_lines, start}
use Rattle.vr_tsplib.specs.Texts.{lines}
use Rattle.vr_tsplib.proofs.AnswerSteps.{answers_value, at_value, changed, refused}
use Rattle.vr_tsplib.proofs.Chains.{goes}
use Rattle.vr_tsplib.proofs.LineLemmas.{line_opens, no_line_left}
use Rattle.vr_tsplib.proofs.RangeLemmas.{lines_sound, start_sound}
use Rattle.vr_tsplib.proofs.files.read_lines.Goals as goal

pub loop-line-preserved : goal.loop-line-preserved
unfolding lines
loop-line-preserved c =
    let bytes = c.args.bytes.now in
    let all = slice_split (λ b. b == 10) bytes in
    let turn = YieldsList-turn (YieldsList-at c.into_iter-line-iterator.ensures.into_iter_gives
    (YieldsList-from_slice_split _ (λ b. b == 10) bytes c.split-line-items.ensures.rest c.split-line-items.ensures.done c.split-line-items.ensures.closure
    (λ x r q k. search (rules, tests)))) c.loop-line.yielded _ c.loop-line.yielded_by _ _ c.in-Some.line c.in-Some.is c.next.ensures.steps in
    let n = length c.loop-line.yielded in
    let number = c.loop-line.number in
    let more : length (c.loop-line.yielded ++ c.in-Some.line ∷ []) ≡ n + 1 = omega (arith, length-append c.loop-line.yielded (c.in-Some.line ∷ [])) in
    record {
      counted = omega (arith, c.loop-line.invariant.counted, more);
      so_far =
          ap (λ k. read_lines c.read_line.new.self (number + 1 + 1) (drop k all)) more
          ∙ sym (line_opens c.loop-line.state (number + 1) all n c.in-Some.line.now turn.0 turn.1 ∙ goes _ (at_value (number + 1) c.in_default.ensures.value))
          ∙ c.loop-line.invariant.so_far;
    }

pub returns-in-Err-clause-lines : goal.returns-in-Err-clause-lines
unfolding lines
returns-in-Err-clause-lines c =
    let bytes = c.args.bytes.now in
    let all = slice_split (λ b. b == 10) bytes in
    let turn = YieldsList-turn (YieldsList-at c.into_iter-line-iterator.ensures.into_iter_gives
    (YieldsList-from_slice_split _ (λ b. b == 10) bytes c.split-line-items.ensures.rest c.split-line-items.ensures.done c.split-line-items.ensures.closure
    (λ x r q k. search (rules, tests)))) c.loop-line.yielded _ c.loop-line.yielded_by _ _ c.in-Some.line c.in-Some.is c.next.ensures.steps in
    let number = c.loop-line.number in
    changed (sym (line_opens c.loop-line.state (number + 1) all (length c.loop-line.yielded) c.in-Some.line.now turn.0 turn.1) ∙ c.loop-line.invariant.so_far)
    (stops (Err c.refusal.result) _ (refused c.in-Err.fail (number + 1) c.refusal.result c.in-Err.ensures c.refusal.ensures) refl)

whole : (c : goal.In-None) → read_lines start 1 (lines c.args.bytes.now) ≡ Ok c.loop-line.state
unfolding lines
whole c =
    let bytes = c.args.bytes.now in
    let all = slice_split (λ b. b == 10) bytes in
    let ended = YieldsList-end (YieldsList-at c.into_iter-line-iterator.ensures.into_iter_gives
    (YieldsList-from_slice_split _ (λ b. b == 10) bytes c.split-line-items.ensures.rest c.split-line-items.ensures.done c.split-line-items.ensures.closure
    (λ x r q k. search (rules, tests)))) c.loop-line.yielded _ c.loop-line.yielded_by _ _ c.in-None.is c.next.ensures.steps in
    sym c.loop-line.invariant.so_far ∙ no_line_left c.loop-line.state (c.loop-line.number + 1) all (length c.loop-line.yielded) (omega (arith, ended.1))

pub returns-clause-lines : goal.returns-clause-lines
returns-clause-lines c = answers_value (whole c)

pub returns-clause-sound : goal.returns-clause-sound
returns-clause-sound c = (lines_sound (lines c.args.bytes.now) start 1 start_sound).of_value c.loop-line.state (whole c)
