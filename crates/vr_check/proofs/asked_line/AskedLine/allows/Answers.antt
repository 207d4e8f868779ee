use Rattle.std.proofs.Common.{◌≡◌, ◌∙◌, ◌&&◌, sym, ap}
use Rattle.vr_check.specs.Asked.{is_let, keeps_fixed_start}
use Rattle.vr_check.proofs.Lines.{asked_allows}
use Rattle.vr_check.proofs.Widths.{narrow, read64}
use Rattle.vr_check.proofs.asked_line.AskedLine.allows.Goals as goal

pub returns-then-is_let : goal.returns-then-is_let
returns-then-is_let c =
    let it = c.args.self.now in
    let same : read64 c.args.x ≡ c.args.x = narrow c.args.x c.ranges.x.sfits in
    let lets = sym (c.is_let.ensures ∙ ap (is_let it c.args.k) same) ∙ c.if-is_let.true in
    c.keeps_fixed_start.ensures ∙ ap (keeps_fixed_start it c.args.k) same
    ∙ sym (ap (λ b. b && keeps_fixed_start it c.args.k c.args.x) lets) ∙ asked_allows it c.args.k c.args.x c.requires.stop

pub returns-else-is_let : goal.returns-else-is_let
returns-else-is_let c =
    let it = c.args.self.now in
    let same : read64 c.args.x ≡ c.args.x = narrow c.args.x c.ranges.x.sfits in
    let lets = sym (c.is_let.ensures ∙ ap (is_let it c.args.k) same) ∙ c.if-is_let.false in
    c.if-is_let.false ∙ sym (ap (λ b. b && keeps_fixed_start it c.args.k c.args.x) lets) ∙ asked_allows it c.args.k c.args.x c.requires.stop
