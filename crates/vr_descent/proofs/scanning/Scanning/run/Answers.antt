use Rattle.std.proofs.Common.{rules, ◌≡◌, ◌∙◌, ◌+◌, ◌≤◌, ◌∷◌, [], ℕ, suc, Some, None, refl, sym, ap, subst, arith}
use Rattle.std.specs.List.{list_all}
use Rattle.vr_model.specs.moves.MoveTests.{is_move}
use Rattle.vr_model.specs.moves.Moves.{moves}
use Rattle.vr_model.specs.search.Scans.{scan, scan_from}
use Rattle.vr_model.specs.deciding.Testing.{and_left, and_right}
use Rattle.vr_model.specs.declared.records.Model.{Model}
use Rattle.vr_known.specs.Passing.{Takes}
use Rattle.vr_model.proofs.tables.Refusals.{on_err}
use Rattle.vr_model.specs.tables.WellFormed.{IsWellFormed}
use Rattle.vr_routes.specs.Judging.{HasCommitted}
use Rattle.vr_descent.specs.Asking.{AsksFor}
use Rattle.vr_descent.specs.Refused.{AreRefused, IsPassed}
use Rattle.vr_descent.specs.Scanned.{is_acceptable, scan_end}
use Rattle.vr_descent.specs.declared.scanning.ScanEnd.TheVariants.{Accepted, Complete}
use Rattle.vr_descent.proofs.AskingLemmas.{asks_all, asks_none, asks_so_far, asks_tried, keeps_then}
use Rattle.vr_descent.proofs.ScanLemmas.{all_moves}
use Rattle.vr_descent.proofs.PassedLemmas.{at_or_behind, capped_most, cut_at_end, cut_from, ends_here}
use Rattle.vr_descent.proofs.RefusedLemmas.{GoesOn, goes_on, found_at, missed_at, read_difference}
use Rattle.vr_descent.proofs.scanning.Scanning.run.Given.{Over}
use Rattle.vr_descent.proofs.scanning.Scanning.run.Goals.{In-Some, In_default}
use Rattle.vr_descent.proofs.scanning.Scanning.run.Goals as goal

-- a move is tried behind those that were passed over, and the scan goes on from it ..
took : (g : Over) (c : In-Some g)
    → Takes (IsPassed c.args.closed.model.now (g.A.Accept.takes c.args.self.now.accept.now) c.args.self.now.routes.now.lists c.args.self.now.rest)
    c.loop-mv.list c.loop-mv.place (Some c.in-Some.mv) c.next_open.new.list c.next_open.new.place
took g c =
    subst (λ (m : Model). Takes (IsPassed m (g.A.Accept.takes c.args.self.now.accept.now) c.args.self.now.routes.now.lists c.args.self.now.rest)
    c.loop-mv.list c.loop-mv.place (Some c.in-Some.mv) c.next_open.new.list c.next_open.new.place) c.requires.accept_model c.in-Some.ensures.takes

gone : (g : Over) (c : In-Some g) → GoesOn c.args.closed.model.now (g.A.Accept.takes c.args.self.now.accept.now)
    c.args.self.now.routes.now.lists c.args.self.now.rest c.loop-mv.list c.loop-mv.place (took g c).behind c.next_open.new.place
gone g c =
    goes_on c.args.closed.model.now (g.A.Accept.takes c.args.self.now.accept.now) c.args.self.now.routes.now.lists
    c.args.self.now.rest c.loop-mv.list (took g c).behind c.loop-mv.place c.next_open.new.place
    (omega (arith, c.loop-mv.invariant.within, c.loop-mv.invariant.fits)) c.loop-mv.invariant.moves (took g c).passes

left : (g : Over) (c : In-Some g)
    → scan_from (gone g c).at (is_acceptable c.args.closed.model.now (g.A.Accept.takes c.args.self.now.accept.now) c.args.self.now.routes.now.lists)
    c.args.self.now.rest (c.in-Some.mv ∷ c.next_open.new.list) ≡ scan (moves c.args.closed.model.now c.args.self.now.routes.now.lists)
    (is_acceptable c.args.closed.model.now (g.A.Accept.takes c.args.self.now.accept.now) c.args.self.now.routes.now.lists) c.args.self.now.rest
left g c =
    ap (scan_from (gone g c).at (is_acceptable c.args.closed.model.now (g.A.Accept.takes c.args.self.now.accept.now) c.args.self.now.routes.now.lists)
    c.args.self.now.rest) (sym (took g c).first) ∙ (sym (gone g c).ends ∙ c.loop-mv.invariant.ends)

-- tries are counted on
further : (g : Over) (c : In-Some g) → c.loop-mv.place ≤ c.next_open.new.place
further g c = at_or_behind c.args.self.now.rest c.loop-mv.place c.next_open.new.place _
    c.in-Some.ensures.takes.passes.counts (omega (arith, c.loop-mv.invariant.fits)) c.loop-mv.invariant.within

-- how often the judge was asked by then, where a move was tried
asks : (g : Over) (c : In-Some g) → (later : g.row.J.Denot) (to : ℕ) → g.J.Judge.asked later ≤ g.J.Judge.asked c.next_open.new.judge + 1
    → g.J.Judge.looked later ≤ g.J.Judge.looked c.next_open.new.judge + 1 → c.next_open.new.place + 1 ≤ to → suc c.loop-mv.place ≤ to
    → AsksFor g.J.Judge.asked g.J.Judge.looked c.args.judge.now later to
asks g c = asks_tried c.args.self.now.rest _ _ _ c.loop-mv.place c.next_open.new.place 1 (omega (arith, c.loop-mv.invariant.fits))
    c.loop-mv.invariant.within c.loop-mv.invariant.asked c.in-Some.ensures.asked c.in-Some.ensures.looked

-- .. or none is left
took_at_end : (g : Over) (c : In_default g)
    → Takes (IsPassed c.args.closed.model.now (g.A.Accept.takes c.args.self.now.accept.now) c.args.self.now.routes.now.lists c.args.self.now.rest)
    c.loop-mv.list c.loop-mv.place None c.next_open.new.list c.next_open.new.place
took_at_end g c =
    subst (λ (m : Model). Takes (IsPassed m (g.A.Accept.takes c.args.self.now.accept.now) c.args.self.now.routes.now.lists c.args.self.now.rest)
    c.loop-mv.list c.loop-mv.place None c.next_open.new.list c.next_open.new.place) c.requires.accept_model c.in_default.ensures.takes

gone_at_end : (g : Over) (c : In_default g) → GoesOn c.args.closed.model.now (g.A.Accept.takes c.args.self.now.accept.now)
    c.args.self.now.routes.now.lists c.args.self.now.rest c.loop-mv.list c.loop-mv.place (took_at_end g c).behind c.next_open.new.place
gone_at_end g c =
    goes_on c.args.closed.model.now (g.A.Accept.takes c.args.self.now.accept.now) c.args.self.now.routes.now.lists
    c.args.self.now.rest c.loop-mv.list (took_at_end g c).behind c.loop-mv.place c.next_open.new.place
    (omega (arith, c.loop-mv.invariant.within, c.loop-mv.invariant.fits)) c.loop-mv.invariant.moves (took_at_end g c).passes

left_at_end : (g : Over) (c : In_default g)
    → scan_from (gone_at_end g c).at (is_acceptable c.args.closed.model.now (g.A.Accept.takes c.args.self.now.accept.now) c.args.self.now.routes.now.lists)
    c.args.self.now.rest [] ≡ scan (moves c.args.closed.model.now c.args.self.now.routes.now.lists)
    (is_acceptable c.args.closed.model.now (g.A.Accept.takes c.args.self.now.accept.now) c.args.self.now.routes.now.lists) c.args.self.now.rest
left_at_end g c =
    ap (scan_from (gone_at_end g c).at (is_acceptable c.args.closed.model.now (g.A.Accept.takes c.args.self.now.accept.now) c.args.self.now.routes.now.lists)
    c.args.self.now.rest) (sym (took_at_end g c).first.0) ∙ (sym (gone_at_end g c).ends ∙ c.loop-mv.invariant.ends)

further_at_end : (g : Over) (c : In_default g) → c.loop-mv.place ≤ c.next_open.new.place
further_at_end g c = at_or_behind c.args.self.now.rest c.loop-mv.place c.next_open.new.place _
    c.in_default.ensures.takes.passes.counts (omega (arith, c.loop-mv.invariant.fits)) c.loop-mv.invariant.within

pub loop-mv-init : goal.loop-mv-init
loop-mv-init g c = let list = c.moves-list.ensures in record {
  fits = search rules;
  keeps = record { model = refl; committed = c.requires.judge.holds.committed };
  asked = asks_none _;
  within = omega arith;
  ends = ap (scan_from 0 (is_acceptable c.args.closed.model.now (g.A.Accept.takes c.args.self.now.accept.now) c.args.self.now.routes.now.lists)
      c.args.self.now.rest) list;
  moves = ap (list_all (is_move c.args.closed.model.now c.args.self.now.routes.now.lists)) list
      ∙ all_moves c.args.closed.model.now c.args.self.now.routes.now.lists;
}

pub returns-then-place-rest-clause-ends : goal.returns-then-place-rest-clause-ends
returns-then-place-rest-clause-ends g c =
    let here = (goal.at.returns-then-place-rest-clause-ends g c).In-Some in
    let real = (gone g here).real in
    let most = capped_most (gone g here).at in
    ap (scan_end c.args.closed.model.now c.args.self.now.routes.now.lists)
    (sym (cut_from (is_acceptable c.args.closed.model.now (g.A.Accept.takes c.args.self.now.accept.now) c.args.self.now.routes.now.lists)
    c.args.self.now.rest (gone g here).at c.in-Some.mv c.next_open.new.list (omega (arith, real, most, c.if-place-rest.true))) ∙ left g here)

pub loop-mv-preserved : goal.loop-mv-preserved
loop-mv-preserved g c =
    let here = (goal.at.loop-mv-preserved g c).In-Some in
    let i = c.loop-mv.invariant in
    let e = c.in-Some.ensures in
    let tried = c.try_move.ensures in
    let at = (gone g here).exact (omega (arith, c.if-place-rest.false)) in
    record {
      fits = i.fits;
      keeps = keeps_then _ _ _ i.keeps (record { model = tried.model ∙ e.model; committed = tried.committed });
      asked = asks g here c.try_move.new.judge (c.next_open.new.place + 1) tried.asked
          tried.looked (omega arith) (let more = further g here in omega (arith, more));
      within = omega (arith, c.if-place-rest.false);
      ends = sym (missed_at c.args.closed.model.now (g.A.Accept.takes c.args.self.now.accept.now) c.args.self.now.routes.now.lists
          c.args.self.now.rest c.next_open.new.place c.in-Some.mv c.next_open.new.list (sym c.in_default-tried.is ∙ c.in_ok-tried.ensures.answer))
          ∙ (ap (λ k. scan_from k (is_acceptable c.args.closed.model.now (g.A.Accept.takes c.args.self.now.accept.now) c.args.self.now.routes.now.lists)
          c.args.self.now.rest (c.in-Some.mv ∷ c.next_open.new.list)) at ∙ left g here);
      moves = and_right (is_move c.args.closed.model.now c.args.self.now.routes.now.lists c.in-Some.mv) _
          (ap (list_all (is_move c.args.closed.model.now c.args.self.now.routes.now.lists)) (sym (took g here).first) ∙ (gone g here).are_moves);
    }

pub returns-in-Some-tried-clause-ends : goal.returns-in-Some-tried-clause-ends
returns-in-Some-tried-clause-ends g c =
    let here = (goal.at.returns-in-Some-tried-clause-ends g c).In-Some in
    let under = c.if-place-rest.false in
    let at = (gone g here).exact (omega (arith, under)) in
    let some = sym c.in-Some-tried.is ∙ c.in_ok-tried.ensures.answer in
    ap (λ d. Accepted (c.next_open.new.place + 1) c.in-Some.mv d)
    (read_difference c.args.closed.model.now (g.A.Accept.takes c.args.self.now.accept.now) c.args.self.now.routes.now.lists
    c.args.self.now.rest c.args.closed.well_formed c.requires.judge.holds.valid c.in-Some.mv c.in-Some-tried.difference some)
    ∙ sym (found_at c.args.closed.model.now (g.A.Accept.takes c.args.self.now.accept.now) c.args.self.now.routes.now.lists
    c.args.self.now.rest c.next_open.new.place c.in-Some.mv c.next_open.new.list c.in-Some-tried.difference some under)
    ∙ ap (scan_end c.args.closed.model.now c.args.self.now.routes.now.lists)
    (ap (λ k. scan_from k (is_acceptable c.args.closed.model.now (g.A.Accept.takes c.args.self.now.accept.now) c.args.self.now.routes.now.lists)
    c.args.self.now.rest (c.in-Some.mv ∷ c.next_open.new.list)) at ∙ left g here)

pub returns-then-place-rest-2-clause-ends : goal.returns-then-place-rest-2-clause-ends
returns-then-place-rest-2-clause-ends g c =
    let here = (goal.at.returns-then-place-rest-2-clause-ends g c).In_default in
    let real = (gone_at_end g here).real in
    let most = capped_most (gone_at_end g here).at in
    ap (scan_end c.args.closed.model.now c.args.self.now.routes.now.lists)
    (sym (cut_at_end (is_acceptable c.args.closed.model.now (g.A.Accept.takes c.args.self.now.accept.now) c.args.self.now.routes.now.lists)
    c.args.self.now.rest (gone_at_end g here).at (omega (arith, real, most, c.if-place-rest-2.true))) ∙ left_at_end g here)

pub returns-clause-ends : goal.returns-clause-ends
returns-clause-ends g c =
    let here = (goal.at.returns-clause-ends g c).In_default in
    let at = (gone_at_end g here).exact (omega (arith, c.if-place-rest-2.false)) in
    ap (λ k. Complete k) at
    ∙ ap (scan_end c.args.closed.model.now c.args.self.now.routes.now.lists)
    (sym (ends_here (is_acceptable c.args.closed.model.now (g.A.Accept.takes c.args.self.now.accept.now) c.args.self.now.routes.now.lists)
    c.args.self.now.rest (gone_at_end g here).at (omega (arith, at, c.if-place-rest-2.false))) ∙ left_at_end g here)

pub next_open-requires : goal.next_open-requires
next_open-requires g c = record {
  ready = record {
    well_formed = subst IsWellFormed (sym c.requires.accept_model) c.args.closed.well_formed;
    accept_stands = c.requires.accept_stands;
    known = subst (λ (m : Model). AreRefused m (g.A.Accept.takes c.args.self.now.accept.now) c.args.self.now.routes.now.lists c.args.self.now.known.now)
        (sym c.requires.accept_model) c.requires.known;
  };
  can_judge = record {
    judge_model = c.loop-mv.invariant.keeps.model ∙ c.requires.judge.judge_model ∙ sym c.requires.accept_model;
    holds = subst (λ (m : Model). HasCommitted m (g.J.Judge.committed c.loop-mv.judge) c.args.self.now.routes.now) (sym c.requires.accept_model)
        (let before = c.requires.judge.holds in record { committed = c.loop-mv.invariant.keeps.committed; of_model = before.of_model; valid = before.valid });
  };
}

pub try_move-requires-clause-judge_model : goal.try_move-requires-clause-judge_model
try_move-requires-clause-judge_model g c = c.in-Some.ensures.model ∙ (c.loop-mv.invariant.keeps.model ∙ c.requires.judge.judge_model)

pub try_move-requires-clause-mv : goal.try_move-requires-clause-mv
try_move-requires-clause-mv g c =
    let here = (goal.at.try_move-requires-clause-mv g c).In-Some in
    and_left (is_move c.args.closed.model.now c.args.self.now.routes.now.lists c.in-Some.mv) _
    (ap (list_all (is_move c.args.closed.model.now c.args.self.now.routes.now.lists)) (sym (took g here).first) ∙ (gone g here).are_moves)

pub try_move-requires-clause-holds : goal.try_move-requires-clause-holds
try_move-requires-clause-holds g c =
    let before = c.requires.judge.holds in record { committed = c.in-Some.ensures.committed; of_model = before.of_model; valid = before.valid }

-- ---- how often the judge was asked

pub returns-then-place-rest-clause-asked : goal.returns-then-place-rest-clause-asked
returns-then-place-rest-clause-asked g c =
    asks_all c.args.self.now.rest _ _ _ c.loop-mv.place c.next_open.new.place 1 (omega (arith, c.loop-mv.invariant.fits))
    c.loop-mv.invariant.within c.loop-mv.invariant.asked c.in-Some.ensures.asked c.in-Some.ensures.looked

pub returns-in_err-tried-clause-asked_at_most : goal.returns-in_err-tried-clause-asked_at_most
returns-in_err-tried-clause-asked_at_most g c =
    let here = (goal.at.returns-in_err-tried-clause-asked_at_most g c).In-Some in
    let more = further g here in
    on_err c.from_residual.result
    (asks g here c.try_move.new.judge c.args.self.now.rest c.try_move.ensures.asked c.try_move.ensures.looked
    (omega (arith, c.if-place-rest.false)) (omega (arith, more, c.if-place-rest.false)))

pub returns-in-Some-tried-clause-asked : goal.returns-in-Some-tried-clause-asked
returns-in-Some-tried-clause-asked g c =
    let here = (goal.at.returns-in-Some-tried-clause-asked g c).In-Some in
    let more = further g here in
    asks g here c.try_move.new.judge (c.next_open.new.place + 1) c.try_move.ensures.asked c.try_move.ensures.looked (omega arith) (omega (arith, more))

pub returns-then-place-rest-2-clause-asked : goal.returns-then-place-rest-2-clause-asked
returns-then-place-rest-2-clause-asked g c =
    asks_all c.args.self.now.rest _ _ _ c.loop-mv.place c.next_open.new.place 0 (omega (arith, c.loop-mv.invariant.fits))
    c.loop-mv.invariant.within c.loop-mv.invariant.asked c.in_default.ensures.asked c.in_default.ensures.looked

pub returns-clause-asked : goal.returns-clause-asked
returns-clause-asked g c =
    asks_so_far c.args.self.now.rest _ _ _ c.loop-mv.place c.next_open.new.place 0 (omega (arith, c.loop-mv.invariant.fits))
    c.loop-mv.invariant.within c.loop-mv.invariant.asked c.in_default.ensures.asked c.in_default.ensures.looked
    c.next_open.new.place (omega arith) (further_at_end g (goal.at.returns-clause-asked g c).In_default)
