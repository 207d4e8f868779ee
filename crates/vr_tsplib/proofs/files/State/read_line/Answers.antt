use Rattle.std.proofs.Common.{Ok, sym, ap, ◌∙◌}
use Rattle.std.specs.Prelude.{if◌then◌else◌}
use Rattle.vr_tsplib.specs.Files.{line_at, read_line}
use Rattle.vr_tsplib.proofs.LineSteps.{changed, line_value}
use Rattle.vr_tsplib.proofs.files.State.read_line.Goals as goal

pub returns-then-is_wordless : goal.returns-then-is_wordless
unfolding read_line
returns-then-is_wordless c =
    let state = c.args.self.now in
    line_value (ap (λ b. if b then Ok state else line_at state.head.place state c.args.line.now) (sym c.is_wordless.ensures ∙ c.if-is_wordless.true))

pub returns : goal.returns
unfolding read_line
returns c =
    let state = c.args.self.now in
    changed (ap (λ b. if b then Ok state else line_at state.head.place state c.args.line.now) (sym c.is_wordless.ensures ∙ c.if-is_wordless.false))
    c.line_at.ensures
