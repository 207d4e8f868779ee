use Rattle.std.proofs.Common.{◌≡◌, ◌∙◌, ℕ, List, length, ap, sym, arith}
use Rattle.std.specs.Prelude.{◌==◌}
use Rattle.vr_routes.proofs.JoinedPieces.{empty_by_length}
use Rattle.vr_parts.specs.Splices.{spliced}
use Rattle.vr_parts.proofs.EmptyLemmas.{some-where}
use Rattle.vr_parts.proofs.SpliceLemmas.{spliced_length}
use Rattle.vr_parts.proofs.splices.is_left_empty.Goals as goal

pub returns-then-splice-gt0 : goal.returns-then-splice-gt0
returns-then-splice-gt0 c =
    let s = c.args.splice in
    let may = c.requires in
    let many = spliced_length c.args.routes.now.lists s.vehicle s.front s.behind s.middle.now may.order may.high in
    let some = c.if-splice-gt0.true in
    sym (some-where (spliced c.args.routes.now.lists s.vehicle s.front s.behind s.middle.now) (λ none. absurd (omega (arith, many, some, none))))

pub returns-then-splice-len : goal.returns-then-splice-len
returns-then-splice-len c =
    let s = c.args.splice in
    let may = c.requires in
    let many = spliced_length c.args.routes.now.lists s.vehicle s.front s.behind s.middle.now may.order may.high in
    let some = c.if-splice-len.true in
    let n = c.len.ensures.value in
    sym (some-where (spliced c.args.routes.now.lists s.vehicle s.front s.behind s.middle.now) (λ none. absurd (omega (arith, many, some, n, none))))

pub nodes_in-requires : goal.nodes_in-requires
nodes_in-requires c = record { few = (let few = c.requires.few in omega (arith, few)) }

pub returns : goal.returns
returns c =
    let s = c.args.splice in
    let may = c.requires in
    let list : List ℕ = spliced c.args.routes.now.lists s.vehicle s.front s.behind s.middle.now in
    let many = spliced_length c.args.routes.now.lists s.vehicle s.front s.behind s.middle.now may.order may.high in
    let front = c.if-splice-gt0.false in
    let behind = c.if-splice-len.false in
    let n = c.len.ensures.value in
    let e = c.nodes_in.ensures c.args.routes.now.lists may.within in
    let same : c.nodes_in.result ≡ length list = omega (arith, many, may.high, front, behind, n, e) in
    ap (λ k. k == 0) same ∙ empty_by_length list
