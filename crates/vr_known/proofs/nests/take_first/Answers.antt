use Rattle.std.proofs.Common.{◌∙◌, ◌∷◌, ◌+◌, sym, ap}
use Rattle.vr_known.specs.Nests.{run_of}
use Rattle.vr_known.proofs.NestLemmas.{run_ends, run_takes}
use Rattle.vr_known.proofs.nests.take_first.Goals as goal

pub returns-then-k-run : goal.returns-then-k-run
returns-then-k-run g c =
    let now = c.go_to_next.new.run in
    let none = run_ends (g.N.Numbered.passes now.numbers) (g.N.Numbered.move_at now.numbers) now.next now.end c.if-k-run.true in
    (sym c.go_to_next.ensures.rest ∙ none, none)

pub returns : goal.returns
returns g c =
    let now = c.go_to_next.new.run in
    let passes = g.N.Numbered.passes now.numbers in
    let move_at = g.N.Numbered.move_at now.numbers in
    sym c.go_to_next.ensures.rest
    ∙ run_takes passes move_at now.next now.end c.if-k-run.false (c.go_to_next.ensures.there c.if-k-run.false)
    ∙ ap (λ m. m ∷ run_of passes move_at (now.next + 1) now.end) (sym c.make.ensures)
