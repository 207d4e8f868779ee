use Rattle.std.proofs.Common.{◌≡◌, ◌≤◌, List, [], ◌∷◌, length, None, String, refl, arith}
use Rattle.std.specs.declared.alloc.Global.{Global}
use Rattle.vr_app.specs.Runs.{bytes_of}
use Rattle.vr_app.specs.Words.{request_of}
use Rattle.vr_app.proofs.words.request_of.Goals as goal

-- three words or more ask for nothing
many : (words : List (String Global)) → 3 ≤ length words → None ≡ request_of (bytes_of words)
many [] h = absurd (omega arith)
many (a ∷ []) h = absurd (omega arith)
many (a ∷ b ∷ []) h = absurd (omega arith)
many (a ∷ b ∷ c ∷ words) h = refl

pub returns-in_default-2-clause-request : goal.returns-in_default-2-clause-request
returns-in_default-2-clause-request c = many c.args.words.now c.in_default.len_at_least
