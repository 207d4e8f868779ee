use Rattle.std.proofs.Common.{◌≡◌, ◌∙◌, ◌⊎◌, ℕ, ◌<◌, ◌≤◌, ◌+◌, ◌-◌, [], ◌∷◌, sym, ap, subst, arith, w64, to_z, of_z}
use Rattle.std.proofs.lemmas.Int.{ints}
use Rattle.std.specs.Prelude.{IsTrue}
use Rattle.vr_model.specs.routes.Costs.{cost}
use Rattle.vr_model.specs.moves.Moves.{apply}
use Rattle.vr_model.specs.moves.MoveTests.{is_move}
use Rattle.vr_model.specs.search.Scans.Scan.{Complete as complete, Cut as cut}
use Rattle.vr_model.specs.routes.Rules.{is_valid}
use Rattle.vr_model.specs.tables.WellFormed.{IsWellFormed}
use Rattle.vr_routes.specs.Changes.{IsChange}
use Rattle.vr_routes.specs.Judging.{HasCommitted}
use Rattle.vr_routes.specs.Judging.{cost_change, moved}
use Rattle.vr_watch.specs.Told.{Reported, ReportedInPart}
use Rattle.vr_model.proofs.routes.CostFits.{costs_are_bounded}
use Rattle.vr_model.proofs.tables.Refusals.{on_err}
use Rattle.vr_watch.proofs.ToldLemmas.{none_behind, told_nothing}
use Rattle.vr_model.specs.routes.CostLaws.{HasBoundedCost}
use Rattle.vr_descent.specs.Asking.{AsksOn}
use Rattle.vr_descent.specs.Scanned.{tries_in_scan, IsChangeAtEnd}
use Rattle.vr_descent.proofs.AskingLemmas.{on_by, on_same}
use Rattle.vr_descent.specs.Searching.{after_move, events_after, move_event, progress_after, routes_after, scan_of}
use Rattle.vr_descent.proofs.EndLemmas.{AcceptedAt, accepted_at, completed, was_cut}
use Rattle.vr_model.specs.declared.neighbours.Move.{Move}
use Rattle.vr_model.specs.declared.neighbours.Neighbourhood.{Neighbourhood}
use Rattle.vr_model.specs.moves.Kinds.{rows_of}
use Rattle.vr_known.specs.Blocks.{IsApart, covers, is_behind, is_kind_of, is_known}
use Rattle.vr_routes.specs.Tours.{Tours}
use Rattle.vr_descent.specs.Refused.{AreRefused, CanJudge}
use Rattle.vr_descent.proofs.RefusedLemmas.{changed, few_lists, noted, noted_all, row_low}
use Rattle.vr_descent.proofs.progress.Progress.advance.Given.{Over}
use Rattle.vr_descent.proofs.progress.Progress.advance.Goals.{In-Accepted, In-Complete, In-Cut, In_ok-ended}
use Rattle.vr_descent.proofs.progress.Progress.advance.Goals as goal

-- the judge has the model still, and holds the lists
same : (g : Over) (c : In_ok-ended g) → g.J.Judge.model c.run.new.judge ≡ c.args.model.now
same g c = c.in_ok-ended.ensures.keeps.model ∙ c.requires.judge.judge_model

held : (g : Over) (c : In_ok-ended g) → HasCommitted c.args.model.now (g.J.Judge.committed c.run.new.judge) c.args.routes.now
held g c = let before = c.requires.judge.holds in record { committed = c.in_ok-ended.ensures.keeps.committed; of_model = before.of_model; valid = before.valid }

-- and so they stand once a move was made
taken : (g : Over) (c : In_ok-ended g) (later : g.row.J.Denot) (tours : Tours) → g.J.Judge.model later ≡ g.J.Judge.model c.run.new.judge
    → HasCommitted (g.J.Judge.model c.run.new.judge) (g.J.Judge.committed later) tours
    → CanJudge c.args.model.now tours (g.J.Judge.model later) (g.J.Judge.committed later)
taken g c later tours stays holds =
    record { judge_model = stays ∙ same g c; holds = subst (λ k. HasCommitted k (g.J.Judge.committed later) tours) (same g c) holds }

-- what the scan tells by its end
accepted : (g : Over) (c : In-Accepted g) → AcceptedAt c.args.model.now (g.A.Accept.takes c.args.accept.now)
    c.args.routes.now.lists (c.args.limit.tries - c.args.self.now.used) c.in-Accepted.place c.in-Accepted.mv c.in-Accepted.difference
accepted g c = accepted_at c.args.model.now (g.A.Accept.takes c.args.accept.now) c.args.routes.now.lists (c.args.limit.tries - c.args.self.now.used)
    c.in-Accepted.place c.in-Accepted.mv c.in-Accepted.difference (sym c.in-Accepted.is ∙ c.in_ok-ended.ensures.ends)

tried_all : (g : Over) (c : In-Complete g)
    → (scan_of c.args.model.now (g.A.Accept.takes c.args.accept.now) c.args.limit c.args.routes.now.lists c.args.self.now.used ≡ complete c.in-Complete.length)
    × (c.in-Complete.length ≤ c.args.limit.tries - c.args.self.now.used)
tried_all g c = completed c.args.model.now (g.A.Accept.takes c.args.accept.now) c.args.routes.now.lists
    (c.args.limit.tries - c.args.self.now.used) c.in-Complete.length (sym c.in-Complete.is ∙ c.in_ok-ended.ensures.ends)

ran_out : (g : Over) (c : In-Cut g)
    → scan_of c.args.model.now (g.A.Accept.takes c.args.accept.now) c.args.limit c.args.routes.now.lists c.args.self.now.used ≡ cut
ran_out g c = was_cut c.args.model.now (g.A.Accept.takes c.args.accept.now) c.args.routes.now.lists
    (c.args.limit.tries - c.args.self.now.used) (sym c.in-Cut.is ∙ c.in_ok-ended.ensures.ends)

-- the event of the move is that of the scan
event : (g : Over) (c : In-Accepted g)
    → move_event (g.J.Judge.model c.run.new.judge) c.args.routes.now.lists c.in-Accepted.mv (c.args.self.now.used + c.in-Accepted.place) ∷ []
    ≡ events_after c.args.model.now c.args.routes.now.lists c.args.self.now.used
    (scan_of c.args.model.now (g.A.Accept.takes c.args.accept.now) c.args.limit c.args.routes.now.lists c.args.self.now.used)
event g c =
    ap (λ k. move_event k c.args.routes.now.lists c.in-Accepted.mv (c.args.self.now.used + c.in-Accepted.place) ∷ [])
    (c.in_ok-ended.ensures.keeps.model ∙ c.requires.judge.judge_model)
    ∙ ap (events_after c.args.model.now c.args.routes.now.lists c.args.self.now.used) (sym (accepted g c).scanned)

-- the judge was asked by the scan alone
asks : (g : Over) (c : In-Accepted g) (later : g.row.J.Denot) → g.J.Judge.asked later ≡ g.J.Judge.asked c.run.new.judge
    → g.J.Judge.looked later ≡ g.J.Judge.looked c.run.new.judge → (to : ℕ) → c.args.self.now.used + c.in-Accepted.place ≤ to
    → AsksOn g.J.Judge.asked g.J.Judge.looked c.args.judge.now later c.args.self.now.used to
asks g c later asked looked to low =
    let tries = ap (tries_in_scan (c.args.limit.tries - c.args.self.now.used)) c.in-Accepted.is in
    on_same _ _ _ _ _ (on_by _ _ c.args.self.now.used to _ c.in_ok-ended.ensures.asked (omega (arith, tries, low))) asked looked

pub returns-in_err-ended-clause-told_in_part : goal.returns-in_err-ended-clause-told_in_part
returns-in_err-ended-clause-told_in_part g c =
    on_err c.from_residual.result (none_behind (λ w. (goal.Watch-dyn g (w.vtable, w.value)).after w.value) _ _ [] _ (told_nothing _ _))

pub returns-in_err-ended-clause-judge : goal.returns-in_err-ended-clause-judge
returns-in_err-ended-clause-judge g c = record {
  judge_model = c.in_err-ended.ensures.keeps.model ∙ c.requires.judge.judge_model;
  holds =
      let before = c.requires.judge.holds in
      record { committed = c.in_err-ended.ensures.keeps.committed; of_model = before.of_model; valid = before.valid };
}

pub returns-in_err-ended-clause-asked_at_most : goal.returns-in_err-ended-clause-asked_at_most
returns-in_err-ended-clause-asked_at_most g c =
    on_err c.from_residual.result (on_by _ _ _ _ _ c.in_err-ended.ensures.asked_at_most (omega (arith, c.requires.used)))

pub take-requires-clause-well_formed : goal.take-requires-clause-well_formed
take-requires-clause-well_formed g c =
    let stays = same g (goal.at.take-requires-clause-well_formed g c).In_ok-ended in
    subst IsWellFormed (sym stays) c.requires.well_formed

pub take-requires-clause-holds : goal.take-requires-clause-holds
take-requires-clause-holds g c =
    let stays = same g (goal.at.take-requires-clause-holds g c).In_ok-ended in
    subst (λ k. HasCommitted k (g.J.Judge.committed c.run.new.judge) c.args.routes.now)
    (sym stays) (held g (goal.at.take-requires-clause-holds g c).In_ok-ended)

pub take-requires-clause-mv : goal.take-requires-clause-mv
take-requires-clause-mv g c =
    let stays = same g (goal.at.take-requires-clause-mv g c).In_ok-ended in
    let made = accepted g (goal.at.take-requires-clause-mv g c).In-Accepted in
    subst (λ k. IsTrue (is_move k c.args.routes.now.lists c.in-Accepted.mv)) (sym stays) made.is_one

pub take-requires-clause-change : goal.take-requires-clause-change
take-requires-clause-change g c =
    let stays = same g (goal.at.take-requires-clause-change g c).In_ok-ended in
    subst (λ k. IsChange k c.args.routes.now.lists c.in-Accepted.mv c.run.new.change) (sym stays)
    (subst (λ ended. IsChangeAtEnd c.args.model.now c.args.routes.now.lists ended c.run.new.change) c.in-Accepted.is c.in_ok-ended.ensures.change)

pub take-requires-clause-valid : goal.take-requires-clause-valid
take-requires-clause-valid g c =
    let stays = same g (goal.at.take-requires-clause-valid g c).In_ok-ended in
    let made = accepted g (goal.at.take-requires-clause-valid g c).In-Accepted in
    subst (λ k. IsTrue (is_valid k (apply k c.args.routes.now.lists c.in-Accepted.mv))) (sym stays) made.valid

pub take-requires-clause-fits : goal.take-requires-clause-fits
take-requires-clause-fits g c =
    let stays = same g (goal.at.take-requires-clause-fits g c).In_ok-ended in
    let made = accepted g (goal.at.take-requires-clause-fits g c).In-Accepted in
    subst (λ k. HasBoundedCost k (apply k c.args.routes.now.lists c.in-Accepted.mv))
    (sym stays) (costs_are_bounded c.args.model.now c.requires.well_formed _ made.valid)

pub take-requires-clause-cost : goal.take-requires-clause-cost
take-requires-clause-cost g c =
    let stays = same g (goal.at.take-requires-clause-cost g c).In_ok-ended in
    c.requires.cost ∙ ap (λ k. cost k c.args.routes.now.lists) (sym stays)

pub take-requires-clause-difference : goal.take-requires-clause-difference
take-requires-clause-difference g c =
    let stays = same g (goal.at.take-requires-clause-difference g c).In_ok-ended in
    let made = accepted g (goal.at.take-requires-clause-difference g c).In-Accepted in
    let after = costs_are_bounded c.args.model.now c.requires.well_formed (apply c.args.model.now c.args.routes.now.lists c.in-Accepted.mv) made.valid in
    let before = costs_are_bounded c.args.model.now c.requires.well_formed c.args.routes.now.lists c.requires.judge.holds.valid in
    let changes = made.changes in
    let fits : to_z w64 (of_z w64 c.in-Accepted.difference) ≡ c.in-Accepted.difference =
    omega (arith, ints, changes, after.least, after.greatest, before.least, before.greatest) in
    fits ∙ (changes ∙ ap (λ k. cost_change k c.args.routes.now.lists c.in-Accepted.mv) (sym stays))

pub take-requires-clause-tries : goal.take-requires-clause-tries
take-requires-clause-tries g c =
    let made = accepted g (goal.at.take-requires-clause-tries g c).In-Accepted in
    omega (arith, made.within, c.requires.tries, c.requires.used)

pub returns-in_err-take-in-Accepted-clause-judge : goal.returns-in_err-take-in-Accepted-clause-judge
returns-in_err-take-in-Accepted-clause-judge g c = taken g (goal.at.returns-in_err-take-in-Accepted-clause-judge g c).In_ok-ended
    c.take.new.judge c.take.new.routes c.in_err-take-in-Accepted.ensures.model c.in_err-take-in-Accepted.ensures.holds

pub returns-in_err-take-in-Accepted-clause-told_in_part : goal.returns-in_err-take-in-Accepted-clause-told_in_part
returns-in_err-take-in-Accepted-clause-told_in_part g c =
    on_err c.from_residual-in_err-take-in-Accepted.result
    (subst (λ es. ReportedInPart (λ w. (goal.Watch-dyn g (w.vtable, w.value)).after w.value) c.args.watch.now.items c.take.new.watch.items es)
    (event g (goal.at.returns-in_err-take-in-Accepted-clause-told_in_part g c).In-Accepted) c.in_err-take-in-Accepted.ensures.told_in_part)

pub returns-in_err-take-in-Accepted-clause-asked_at_most : goal.returns-in_err-take-in-Accepted-clause-asked_at_most
returns-in_err-take-in-Accepted-clause-asked_at_most g c =
    let here = (goal.at.returns-in_err-take-in-Accepted-clause-asked_at_most g c).In-Accepted in
    let made = accepted g here in
    on_err c.from_residual-in_err-take-in-Accepted.result
    (asks g here c.take.new.judge c.in_err-take-in-Accepted.ensures.asked
    c.in_err-take-in-Accepted.ensures.looked _ (omega (arith, made.within, c.requires.used)))

pub returns-in_ok-take-in-Accepted-clause-judge : goal.returns-in_ok-take-in-Accepted-clause-judge
returns-in_ok-take-in-Accepted-clause-judge g c = taken g (goal.at.returns-in_ok-take-in-Accepted-clause-judge g c).In_ok-ended
    c.take.new.judge c.take.new.routes c.in_ok-take-in-Accepted.ensures.model c.in_ok-take-in-Accepted.ensures.holds

pub returns-in_ok-take-in-Accepted-clause-told : goal.returns-in_ok-take-in-Accepted-clause-told
returns-in_ok-take-in-Accepted-clause-told g c =
    subst (λ es. Reported (λ w. (goal.Watch-dyn g (w.vtable, w.value)).after w.value) c.args.watch.now.items c.take.new.watch.items es)
    (event g (goal.at.returns-in_ok-take-in-Accepted-clause-told g c).In-Accepted) c.in_ok-take-in-Accepted.ensures.told

pub returns-in_ok-take-in-Accepted-clause-progress : goal.returns-in_ok-take-in-Accepted-clause-progress
returns-in_ok-take-in-Accepted-clause-progress g c =
    let stays = same g (goal.at.returns-in_ok-take-in-Accepted-clause-progress g c).In_ok-ended in
    let made = accepted g (goal.at.returns-in_ok-take-in-Accepted-clause-progress g c).In-Accepted in
    c.in_ok-take-in-Accepted.ensures.progress
    ∙ (ap (λ k. after_move k c.args.routes.now.lists c.in-Accepted.mv c.in-Accepted.place c.args.self.now) stays
    ∙ ap (progress_after c.args.model.now c.args.limit c.args.routes.now.lists c.args.self.now) (sym made.scanned))

pub returns-in_ok-take-in-Accepted-clause-routes : goal.returns-in_ok-take-in-Accepted-clause-routes
returns-in_ok-take-in-Accepted-clause-routes g c =
    let stays = same g (goal.at.returns-in_ok-take-in-Accepted-clause-routes g c).In_ok-ended in
    let made = accepted g (goal.at.returns-in_ok-take-in-Accepted-clause-routes g c).In-Accepted in
    c.in_ok-take-in-Accepted.ensures.routes
    ∙ (ap (λ k. moved k c.args.routes.now c.in-Accepted.mv) stays ∙ ap (routes_after c.args.model.now c.args.routes.now) (sym made.scanned))

pub returns-in_ok-take-in-Accepted-clause-asked : goal.returns-in_ok-take-in-Accepted-clause-asked
returns-in_ok-take-in-Accepted-clause-asked g c =
    asks g (goal.at.returns-in_ok-take-in-Accepted-clause-asked g c).In-Accepted c.take.new.judge c.in_ok-take-in-Accepted.ensures.asked
    c.in_ok-take-in-Accepted.ensures.looked _ (omega (arith, ap (λ p. p.used) c.in_ok-take-in-Accepted.ensures.progress))

pub overflow_add-self : goal.overflow_add-self
overflow_add-self g c =
    let done = tried_all g (goal.at.overflow_add-self g c).In-Complete in
    omega (arith, done.1, c.requires.tries, c.requires.used)

pub returns-in-Complete-clause-progress : goal.returns-in-Complete-clause-progress
returns-in-Complete-clause-progress g c =
    let done = tried_all g (goal.at.returns-in-Complete-clause-progress g c).In-Complete in
    ap (progress_after c.args.model.now c.args.limit c.args.routes.now.lists c.args.self.now) (sym done.0)

pub returns-in-Complete-clause-routes : goal.returns-in-Complete-clause-routes
returns-in-Complete-clause-routes g c =
    let done = tried_all g (goal.at.returns-in-Complete-clause-routes g c).In-Complete in
    ap (routes_after c.args.model.now c.args.routes.now) (sym done.0)

pub returns-in-Complete-clause-told : goal.returns-in-Complete-clause-told
returns-in-Complete-clause-told g c =
    let done = tried_all g (goal.at.returns-in-Complete-clause-told g c).In-Complete in
    subst (λ es. Reported (λ w. (goal.Watch-dyn g (w.vtable, w.value)).after w.value) c.args.watch.now.items c.args.watch.now.items es)
    (ap (events_after c.args.model.now c.args.routes.now.lists c.args.self.now.used) (sym done.0)) (told_nothing _ _)

pub returns-in-Complete-clause-asked : goal.returns-in-Complete-clause-asked
returns-in-Complete-clause-asked g c =
    on_by _ _ _ _ _ c.in_ok-ended.ensures.asked (omega (arith, ap (tries_in_scan (c.args.limit.tries - c.args.self.now.used)) c.in-Complete.is))

pub returns-in-Complete-clause-judge : goal.returns-in-Complete-clause-judge
returns-in-Complete-clause-judge g c =
    let here = (goal.at.returns-in-Complete-clause-judge g c).In_ok-ended in
    record { judge_model = same g here; holds = held g here }

pub returns-in-Cut-clause-progress : goal.returns-in-Cut-clause-progress
returns-in-Cut-clause-progress g c =
    let none = ran_out g (goal.at.returns-in-Cut-clause-progress g c).In-Cut in
    ap (progress_after c.args.model.now c.args.limit c.args.routes.now.lists c.args.self.now) (sym none)

pub returns-in-Cut-clause-routes : goal.returns-in-Cut-clause-routes
returns-in-Cut-clause-routes g c =
    let none = ran_out g (goal.at.returns-in-Cut-clause-routes g c).In-Cut in
    ap (routes_after c.args.model.now c.args.routes.now) (sym none)

pub returns-in-Cut-clause-told : goal.returns-in-Cut-clause-told
returns-in-Cut-clause-told g c =
    let none = ran_out g (goal.at.returns-in-Cut-clause-told g c).In-Cut in
    subst (λ es. Reported (λ w. (goal.Watch-dyn g (w.vtable, w.value)).after w.value) c.args.watch.now.items c.args.watch.now.items es)
    (ap (events_after c.args.model.now c.args.routes.now.lists c.args.self.now.used) (sym none)) (told_nothing _ _)

pub returns-in-Cut-clause-asked : goal.returns-in-Cut-clause-asked
returns-in-Cut-clause-asked g c =
    on_by _ _ _ _ _ c.in_ok-ended.ensures.asked (omega (arith, c.requires.used, ap (tries_in_scan (c.args.limit.tries - c.args.self.now.used)) c.in-Cut.is))

pub returns-in-Cut-clause-judge : goal.returns-in-Cut-clause-judge
returns-in-Cut-clause-judge g c = let here = (goal.at.returns-in-Cut-clause-judge g c).In_ok-ended in record { judge_model = same g here; holds = held g here }

pub note-requires : goal.note-requires
note-requires g c =
    let model = c.args.model.now in
    let lists = c.args.routes.now.lists in
    let made = accepted g (goal.at.note-requires g c).In-Accepted in
    record {
      first = row_low model (g.A.Accept.takes c.args.accept.now) lists c.requires.well_formed
          (few_lists model c.requires.well_formed lists c.requires.judge.holds.valid) c.in-Accepted.mv made.is_one;
    }

pub of-touched-requires : goal.of-touched-requires
of-touched-requires g c =
    let made = accepted g (goal.at.of-touched-requires g c).In-Accepted in
    record { mv = made.is_one }

pub returns-in_ok-take-in-Accepted-clause-known : goal.returns-in_ok-take-in-Accepted-clause-known
returns-in_ok-take-in-Accepted-clause-known g c =
    let model = c.args.model.now in
    let takes = g.A.Accept.takes c.args.accept.now in
    let lists = c.args.routes.now.lists in
    let mv = c.in-Accepted.mv in
    let first = c.of-touched.result.first in
    let second = c.of-touched.result.second in
    let stays = same g (goal.at.returns-in_ok-take-in-Accepted-clause-known g c).In_ok-ended in
    let made = accepted g (goal.at.returns-in_ok-take-in-Accepted-clause-known g c).In-Accepted in
    let few = few_lists model c.requires.well_formed lists c.requires.judge.holds.valid in
    let learned = subst (λ ns. (k : Neighbourhood) (u w : ℕ) → u < rows_of k → IsTrue (is_known c.note.new.self k u w)
    → IsTrue (is_known c.args.known.now k u w) ⊎ IsTrue (is_behind ns k u mv)) c.as_slice.ensures c.note.ensures.learned in
    let before = noted model takes lists c.args.known.now c.note.new.self c.in-Accepted.place
    (c.args.limit.tries - c.args.self.now.used) mv c.requires.well_formed few made.scanned learned c.requires.known in
    let routes_are : c.take.new.routes ≡ moved model c.args.routes.now mv = c.in_ok-take-in-Accepted.ensures.routes
    ∙ ap (λ k. moved k c.args.routes.now mv) stays in
    let apart = subst (λ r. (m : Move) → IsTrue (is_move model r.lists m) → IsTrue (covers c.change.new.self m) → IsApart model r.lists mv first second m)
    routes_are c.change.ensures.apart in
    let after = changed model takes lists mv made.is_one first second c.of-touched.ensures.others
    c.note.new.self c.change.new.self c.requires.judge.holds.valid made.valid
    (λ k u w h. c.requires.stays (c.note.ensures.learns (c.change.ensures.learns (c.change.ensures.known k u w h)))) c.change.ensures.fewer apart before in
    subst (λ r. AreRefused model takes r.lists c.change.new.self) (sym routes_are) after

pub returns-in-Complete-clause-known : goal.returns-in-Complete-clause-known
returns-in-Complete-clause-known g c =
    let model = c.args.model.now in
    let takes = g.A.Accept.takes c.args.accept.now in
    let lists = c.args.routes.now.lists in
    let done = tried_all g (goal.at.returns-in-Complete-clause-known g c).In-Complete in
    let few = few_lists model c.requires.well_formed lists c.requires.judge.holds.valid in
    let learned = subst (λ ns. (k : Neighbourhood) (u w : ℕ) → u < rows_of k → IsTrue (is_known c.note_all.new.self k u w)
    → IsTrue (is_known c.args.known.now k u w) ⊎ IsTrue (is_kind_of ns k)) c.as_slice-in-Complete.ensures c.note_all.ensures.learned in
    noted_all model takes lists c.args.known.now c.note_all.new.self c.in-Complete.length
    (c.args.limit.tries - c.args.self.now.used) c.requires.well_formed few done.0 learned c.requires.known
