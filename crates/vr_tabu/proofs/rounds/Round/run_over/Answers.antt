use Rattle.std.proofs.Common.{◌≡◌, ◌∙◌, ℕ, suc, ◌+◌, ◌^◌, ◌<◌, ◌≤◌, length, refl, sym, ap, subst, arith}
use Rattle.std.specs.Prelude.{None}
use Rattle.std.specs.List.{list_all}
use Rattle.vr_model.specs.deciding.Testing.{and_right}
use Rattle.vr_model.specs.moves.MoveTests.{is_move}
use Rattle.vr_model.specs.moves.Moves.{moves}
use Rattle.vr_tabu.specs.Rounds.{tries_of, IsChangeOfBest}
use Rattle.vr_tabu.specs.Tabus.{tabus_of}
use Rattle.vr_model.proofs.tables.Refusals.{on_err}
use Rattle.vr_descent.specs.Asking.{AsksFor}
use Rattle.vr_descent.proofs.AskingLemmas.{asks_all, asks_as, asks_none, asks_so_far, asks_tried, keeps_then}
use Rattle.vr_descent.proofs.PassedLemmas.{at_or_behind}
use Rattle.vr_descent.proofs.ScanLemmas.{all_moves}
use Rattle.vr_tabu.proofs.RoundLemmas.{IsLeft, all_tried, at_most, best_of, change_at_end, cut_off, exact, one_more, one_tried, pass_over, tries_end}
use Rattle.vr_tabu.proofs.rounds.Round.run_over.Given.{Over}
use Rattle.vr_tabu.proofs.rounds.Round.run_over.Goals.{After-end_of, In-Some, In_default}
use Rattle.vr_tabu.proofs.rounds.Round.run_over.Goals as goal

fits : (rest : ℕ) → rest ≤ 1000000000 → rest < 2 ^ 64
fits rest few = omega (arith, few)

-- what is left of the moves behind those that were passed over, where a move is tried ..
before : (g : Over) (c : In-Some g)
    → IsLeft c.args.self.now.model.now (tabus_of c.args.self.now.state.now.tabus) c.args.self.now.state.now.best.routes.lists
    c.args.self.now.routes.now.lists c.loop-mv.best c.loop-mv.length c.in-Some.ensures.takes.behind c.next_open.new.length
before g c =
    let i = c.loop-mv.invariant in
    pass_over c.args.self.now.model.now (tabus_of c.args.self.now.state.now.tabus) c.args.self.now.state.now.best.routes.lists
    c.args.self.now.routes.now.lists c.loop-mv.best c.args.self.now.ceiling c.loop-mv.list c.in-Some.ensures.takes.behind
    c.loop-mv.length c.next_open.new.length i.known c.args.self.now.bounded c.in-Some.ensures.takes.passes i.counted i.moves i.left

-- .. and where none is left
at_end : (g : Over) (c : In_default g)
    → IsLeft c.args.self.now.model.now (tabus_of c.args.self.now.state.now.tabus) c.args.self.now.state.now.best.routes.lists
    c.args.self.now.routes.now.lists c.loop-mv.best c.loop-mv.length c.in_default.ensures.takes.behind c.next_open.new.length
at_end g c =
    let i = c.loop-mv.invariant in
    pass_over c.args.self.now.model.now (tabus_of c.args.self.now.state.now.tabus) c.args.self.now.state.now.best.routes.lists
    c.args.self.now.routes.now.lists c.loop-mv.best c.args.self.now.ceiling c.loop-mv.list c.in_default.ensures.takes.behind
    c.loop-mv.length c.next_open.new.length i.known c.args.self.now.bounded c.in_default.ensures.takes.passes i.counted i.moves i.left

-- where none is left all moves are tries
all_tries : (g : Over) (c : After-end_of g) → tries_of c.args.rest c.end_of.result ≡ c.next_open.new.length
all_tries g c = ap (tries_of c.args.rest) c.end_of.ensures ∙ tries_end c.args.rest c.next_open.new.length c.loop-mv.best

-- counts of few moves are exact
counted : (g : Over) (c : In-Some g) → c.next_open.new.length ≤ 1000000000 → c.next_open.new.length ≡ (before g c).at
counted g c under = let counts = (before g c).counts in counts ∙ exact (before g c).at (omega (arith, counts, under))

counted_at_end : (g : Over) (c : In_default g) → c.next_open.new.length ≤ 1000000000 → c.next_open.new.length ≡ (at_end g c).at
counted_at_end g c under = let counts = (at_end g c).counts in counts ∙ exact (at_end g c).at (omega (arith, counts, under))

-- tries are counted on
further : (g : Over) (c : In-Some g) → c.loop-mv.length ≤ c.next_open.new.length
further g c = at_or_behind c.args.rest c.loop-mv.length c.next_open.new.length _
    c.in-Some.ensures.takes.passes.counts (fits c.args.rest c.requires.rest) c.loop-mv.invariant.within

-- how often the judge was asked by then, where a move was tried
asks : (g : Over) (c : In-Some g) → (later : g.row.J.Denot) (to : ℕ) → g.J.Judge.asked later ≤ g.J.Judge.asked c.next_open.new.judge + 1
    → g.J.Judge.looked later ≤ g.J.Judge.looked c.next_open.new.judge + 1 → c.next_open.new.length + 1 ≤ to → suc c.loop-mv.length ≤ to
    → AsksFor g.J.Judge.asked g.J.Judge.looked c.args.judge.now later to
asks g c = asks_tried c.args.rest _ _ _ c.loop-mv.length c.next_open.new.length 1 (fits c.args.rest c.requires.rest)
    c.loop-mv.invariant.within c.loop-mv.invariant.asked c.in-Some.ensures.asked c.in-Some.ensures.looked

pub loop-mv-init : goal.loop-mv-init
loop-mv-init g c =
    let model = c.args.self.now.model.now in
    let lists = c.args.self.now.routes.now.lists in
    let list = c.requires.list in
    record {
      keeps = record { model = refl; committed = c.requires.judge.committed };
      asked = asks_none _;
      within = omega arith;
      counted = (let same = ap length list in omega (arith, same));
      moves = ap (list_all (is_move model lists)) list ∙ all_moves model lists;
      known = tt;
      kept = tt;
      left = ap (best_of model (tabus_of c.args.self.now.state.now.tabus) c.args.self.now.state.now.best.routes.lists lists None) list;
    }

pub returns-then-length-rest-clause-ends : goal.returns-then-length-rest-clause-ends
returns-then-length-rest-clause-ends g c =
    let t = c.in-Some.ensures.takes in
    let is = before g (goal.at.returns-then-length-rest-clause-ends g c).In-Some in
    let all = all_with is.at (length t.behind) (length c.next_open.new.list)
    (length (moves c.args.self.now.model.now c.args.self.now.routes.now.lists)) is.sum (ap length t.first) in
    let counts = is.counts in
    let most = at_most is.at in
    cut_off c.args.self.now.model.now (tabus_of c.args.self.now.state.now.tabus) c.args.self.now.state.now.best.routes.lists
    c.args.self.now.routes.now.lists (is.at + 1) c.args.rest (omega (arith, counts, most, c.if-length-rest.true)) all
  where
    all_with : (at behind left all : ℕ) → at + behind ≡ all → behind ≡ suc left → at + 1 ≤ all
    all_with at behind left all sum e = omega (arith, sum, e)

pub loop-mv-preserved : goal.loop-mv-preserved
loop-mv-preserved g c =
    let i = c.loop-mv.invariant in
    let e = c.in_ok-best.ensures in
    let t = c.in-Some.ensures.takes in
    let here = (goal.at.loop-mv-preserved g c).In-Some in
    let is = before g here in
    let under = c.if-length-rest.false in
    let at = counted g here (omega (arith, under, c.requires.rest)) in
    let more = further g here in
    record {
      keeps = keeps_then _ _ _ i.keeps (record { model = e.model ∙ c.in-Some.ensures.model; committed = e.committed });
      asked = asks g here c.try_move.new.judge (c.next_open.new.length + 1) e.asked e.looked (omega arith) (omega (arith, more));
      within = omega (arith, under);
      counted = one_more c.next_open.new.length (length c.next_open.new.list) (length (moves c.args.self.now.model.now c.args.self.now.routes.now.lists))
          (ap (λ n. n + suc (length c.next_open.new.list)) at ∙ (ap (λ ms. is.at + length ms) (sym t.first) ∙ is.sum));
      moves = and_right (is_move c.args.self.now.model.now c.args.self.now.routes.now.lists c.in-Some.mv)
          (list_all (is_move c.args.self.now.model.now c.args.self.now.routes.now.lists) c.next_open.new.list)
          (ap (list_all (is_move c.args.self.now.model.now c.args.self.now.routes.now.lists)) (sym t.first) ∙ is.moves);
      known = e.known;
      kept = e.kept;
      left = one_tried c.args.self.now.model.now (tabus_of c.args.self.now.state.now.tabus) c.args.self.now.state.now.best.routes.lists
          c.args.self.now.routes.now.lists c.loop-mv.best c.in_ok-best.best c.in-Some.mv t.behind c.next_open.new.list t.first e.best is.left;
    }

pub returns-then-length-rest-2-clause-ends : goal.returns-then-length-rest-2-clause-ends
returns-then-length-rest-2-clause-ends g c =
    let is = at_end g (goal.at.returns-then-length-rest-2-clause-ends g c).In_default in
    let counts = is.counts in
    let sum = is.sum in
    let most = at_most is.at in
    cut_off c.args.self.now.model.now (tabus_of c.args.self.now.state.now.tabus) c.args.self.now.state.now.best.routes.lists
    c.args.self.now.routes.now.lists is.at c.args.rest (omega (arith, counts, most, c.if-length-rest-2.true)) (omega (arith, sum))

pub returns-clause-ends : goal.returns-clause-ends
returns-clause-ends g c =
    let t = c.in_default.ensures.takes in
    let here = (goal.at.returns-clause-ends g c).In_default in
    let is = at_end g here in
    let under = c.if-length-rest-2.false in
    let at = counted_at_end g here (omega (arith, under, c.requires.rest)) in
    c.end_of.ensures ∙ all_tried c.args.self.now.model.now (tabus_of c.args.self.now.state.now.tabus)
    c.args.self.now.state.now.best.routes.lists c.args.self.now.routes.now.lists c.next_open.new.length c.args.rest c.loop-mv.best
    t.behind t.first.0 (ap (λ n. n + length t.behind) at ∙ is.sum) (omega (arith, under)) c.loop-mv.invariant.known is.left

pub returns-clause-kept : goal.returns-clause-kept
returns-clause-kept g c =
    let model = c.args.self.now.model.now in
    let lists = c.args.self.now.routes.now.lists in
    subst (λ ended. IsChangeOfBest model lists ended c.loop-mv.kept) (sym c.end_of.ensures)
    (change_at_end model lists c.loop-mv.kept c.next_open.new.length c.loop-mv.best c.loop-mv.invariant.kept)

-- ---- how often the judge was asked

pub returns-clause-asked : goal.returns-clause-asked
returns-clause-asked g c =
    let at = goal.at.returns-clause-asked g c in
    let from = (at_end g at.In_default).from in
    let exact = counted_at_end g at.In_default (omega (arith, c.if-length-rest-2.false, c.requires.rest)) in
    asks_as _ _ _ _ (all_tries g at.After-end_of)
    (asks_so_far c.args.rest _ _ _ c.loop-mv.length c.next_open.new.length 0 (fits c.args.rest c.requires.rest) c.loop-mv.invariant.within
    c.loop-mv.invariant.asked c.in_default.ensures.asked c.in_default.ensures.looked c.next_open.new.length (omega arith) (omega (arith, from, exact)))

pub returns-then-length-rest-clause-asked : goal.returns-then-length-rest-clause-asked
returns-then-length-rest-clause-asked g c =
    asks_all c.args.rest _ _ _ c.loop-mv.length c.next_open.new.length 1 (fits c.args.rest c.requires.rest)
    c.loop-mv.invariant.within c.loop-mv.invariant.asked c.in-Some.ensures.asked c.in-Some.ensures.looked

pub returns-in_err-best-clause-asked_at_most : goal.returns-in_err-best-clause-asked_at_most
returns-in_err-best-clause-asked_at_most g c =
    let here = (goal.at.returns-in_err-best-clause-asked_at_most g c).In-Some in
    let more = further g here in
    on_err c.from_residual.result
    (asks g here c.try_move.new.judge c.args.rest c.try_move.ensures.asked c.try_move.ensures.looked
    (omega (arith, c.if-length-rest.false)) (omega (arith, more, c.if-length-rest.false)))

pub returns-then-length-rest-2-clause-asked : goal.returns-then-length-rest-2-clause-asked
returns-then-length-rest-2-clause-asked g c =
    asks_all c.args.rest _ _ _ c.loop-mv.length c.next_open.new.length 0 (fits c.args.rest c.requires.rest)
    c.loop-mv.invariant.within c.loop-mv.invariant.asked c.in_default.ensures.asked c.in_default.ensures.looked
