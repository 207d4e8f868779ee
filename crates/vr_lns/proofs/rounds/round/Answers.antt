use Rattle.std.proofs.Common.{◌≡◌, ◌∙◌, ◌+◌, ◌≤◌, ℕ, List, Option, ap, ap₂, sym, subst, arith, length}
use Rattle.vr_model.specs.tables.Numbers.{each, from_to}
use Rattle.vr_model.specs.routes.Routes.{route}
use Rattle.vr_model.proofs.tables.Ranges.{walk_opens}
use Rattle.vr_lns.specs.declared.cutting.Cut.{Cut}
use Rattle.vr_lns.specs.Cuts.{accepted_by, cuts_of}
use Rattle.vr_lns.specs.Rounds.{Round, round, round_from}
use Rattle.vr_lns.specs.Standing.{lists_after_round, round_end, tries_in_round, HoldValid}
use Rattle.vr_lns.proofs.BoundLemmas.{round_tells, Tells}
use Rattle.vr_lns.proofs.RoundLemmas.{behind_none, completed, round_behind, round_both}
use Rattle.vr_lns.proofs.rounds.round.Given.{Over}
use Rattle.vr_lns.proofs.rounds.round.Goals.{In_ok-ended}
use Rattle.vr_lns.proofs.rounds.round.Goals as goal

abbrev accepted : (g : Over) → In_ok-ended g → Cut → Option (List (List ℕ))
accepted g c = accepted_by c.args.cutting.now.model c.args.cutting.now.most c.args.routes.now.lists

abbrev cuts : (g : Over) → In_ok-ended g → ℕ → List Cut
cuts g c v = cuts_of v (route c.args.routes.now.lists v)

-- the cuts of the lists behind
abbrev behind : (g : Over) → In_ok-ended g → List Cut
behind g c = each (from_to (c.loop-v.v + 1) (length c.args.routes.now.lists)) (cuts g c)

-- the round of the cuts of this list
abbrev here : (g : Over) → In_ok-ended g → Round
here g c = round_from c.loop-v.tried (accepted g c) c.args.rest (cuts g c c.loop-v.v)

-- that of all cuts goes on behind it
whole : (g : Over) (c : In_ok-ended g) → round_behind (accepted g c) c.args.rest (behind g c) (here g c)
    ≡ round c.args.cutting.now.model c.args.cutting.now.most c.args.routes.now.lists c.args.rest
whole g c =
    sym (round_both (accepted g c) c.args.rest c.loop-v.tried (cuts g c c.loop-v.v) (behind g c))
    ∙ walk_opens (λ vs. round_from c.loop-v.tried (accepted g c) c.args.rest (each vs (cuts g c))) (length c.args.routes.now.lists)
    c.loop-v.v c.loop-v.invariant.left (omega (arith, c.loop-v-test.true, c.vehicles-v-end.ensures.value))

-- it is that of the lists as they stand
same : (g : Over) (c : In_ok-ended g) → round_from c.loop-v.tried (accepted_by c.loop-v.cutting.model c.loop-v.cutting.most c.loop-v.routes.lists)
    c.args.rest (cuts_of c.loop-v.v (route c.loop-v.routes.lists c.loop-v.v)) ≡ here g c
same g c = ap₂ (λ k ls. round_from c.loop-v.tried (accepted_by k.model k.most ls) c.args.rest (cuts_of c.loop-v.v (route ls c.loop-v.v)))
    c.loop-v.invariant.cutter c.loop-v.invariant.lists

pub returns-in_default : goal.returns-in_default
returns-in_default g c =
    let at = (goal.at.returns-in_default g c).In_ok-ended in
    let ends = c.in_ok-ended.ensures.ends ∙ ap round_end (same g at) in
    let all = sym (behind_none (accepted g at) c.args.rest (behind g at) (here g at) c.in_ok-ended.ended ends c.in_default.not-Complete) ∙ whole g at in
    record {
      ends = ends ∙ ap round_end all;
      lists = c.in_ok-ended.ensures.lists ∙ ap₂ lists_after_round c.loop-v.invariant.lists (same g at ∙ all);
      holds = subst (λ k. HoldValid k.model c.cut_list.new.routes c.cut_list.new.total) c.loop-v.invariant.cutter c.in_ok-ended.ensures.holds;
      cutter = c.in_ok-ended.ensures.cutter ∙ c.loop-v.invariant.cutter;
      knows = subst (λ k. g.R.Rebuild.knows c.cut_list.new.rebuild k.model) c.loop-v.invariant.cutter c.in_ok-ended.ensures.knows;
      made = omega (arith, c.in_ok-ended.ensures.made, c.loop-v.invariant.made);
      made_at_most = tt;
    }

pub loop-v-preserved : goal.loop-v-preserved
loop-v-preserved g c =
    let at = (goal.at.loop-v-preserved g c).In_ok-ended in
    let done = completed (here g at) c.in-Complete.length (sym c.in-Complete.is ∙ (c.in_ok-ended.ensures.ends ∙ ap round_end (same g at))) in
    let within : c.in-Complete.length ≤ c.args.rest = subst (Tells (λ after. Unit {0}) c.args.rest c.loop-v.tried) done
    (round_tells (accepted g at) c.args.rest (λ after. Unit {0}) (λ at after e. tt) c.loop-v.tried (cuts g at c.loop-v.v)) in
    record {
      cutter = c.in_ok-ended.ensures.cutter ∙ c.loop-v.invariant.cutter;
      lists = c.in_ok-ended.ensures.lists ∙ ap₂ lists_after_round c.loop-v.invariant.lists (same g at ∙ done);
      holds = subst (λ k. HoldValid k.model c.cut_list.new.routes c.cut_list.new.total) c.loop-v.invariant.cutter c.in_ok-ended.ensures.holds;
      within = within;
      knows = subst (λ k. g.R.Rebuild.knows c.cut_list.new.rebuild k.model) c.loop-v.invariant.cutter c.in_ok-ended.ensures.knows;
      made = omega (arith, c.in_ok-ended.ensures.made, c.loop-v.invariant.made, ap (tries_in_round c.args.rest) c.in-Complete.is);
      left = ap (round_behind (accepted g at) c.args.rest (behind g at)) (sym done) ∙ whole g at;
    }
