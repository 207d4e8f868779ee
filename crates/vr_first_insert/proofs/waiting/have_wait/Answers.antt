use Rattle.std.proofs.Common.{◌∙◌, ◌++◌, [], ◌∷◌, None, ap, cond, sym}
use Rattle.std.specs.Prelude.{not}
use Rattle.vr_first_insert.proofs.waiting.have_wait.Goals as goal

pub returns-then-is_marked : goal.returns-then-is_marked
returns-then-is_marked c =
    let waiting = c.args.waiting.now.items in
    ap (λ b. cond (not b) (waiting ++ record { number = c.args.i; least = None } ∷ []) waiting) (sym c.if-is_marked.true ∙ c.is_marked.ensures)

pub returns : goal.returns
returns c =
    let waiting = c.args.waiting.now.items in
    c.in_ok-push.ensures.items
    ∙ ap (λ b. cond (not b) (waiting ++ record { number = c.args.i; least = None } ∷ []) waiting) (sym c.if-is_marked.false ∙ c.is_marked.ensures)
