use Rattle.std.proofs.Common.{◌≡◌, ◌∙◌, ℕ, ◌++◌, sym, ap, subst}
use Rattle.std.specs.Prelude.{IfSome}
use Rattle.vr_routes.specs.Runs.{with_last}
use Rattle.vr_known.specs.Nests.{run_of}
use Rattle.vr_known.proofs.NestLemmas.{run_in_front}
use Rattle.vr_known.proofs.nests.RunListed.stretch.Goals as goal

pub returns-in-Some : goal.returns-in-Some
returns-in-Some g c =
    let now = c.args.self.now in
    let passes = g.N.Numbered.passes now.numbers in
    let move_at = g.N.Numbered.move_at now.numbers in
    let front = c.end_of_front-end.result in
    let same = subst (λ o. IfSome o (λ mv. (k : ℕ) → with_last mv k ≡ move_at k)) c.in-Some.is c.run.ensures in
    run_in_front passes move_at (with_last c.in-Some.mv) now.next front now.end
    c.end_of_front-end.ensures.from c.end_of_front-end.ensures.within c.end_of_front-end.ensures.all same
    ∙ ap (λ l. l ++ run_of passes move_at front now.end) (sym c.new.ensures)
