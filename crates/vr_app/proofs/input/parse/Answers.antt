use Rattle.std.proofs.Common.{◌≡◌, true, sym}
use Rattle.serde_json.specs.View.{view}
use Rattle.vr_app.proofs.InputLemmas.{value_of-some, value_of-none}
use Rattle.vr_app.proofs.input.parse.Goals as goal

pub returns-in-Ok : goal.returns-in-Ok
returns-in-Ok c = let read = c.in-Ok.ensures.ok in sym (value_of-some c.args.bytes.now (view c.in-Ok.value) read.0 read.1)

pub returns-in-Err-2 : goal.returns-in-Err-2
returns-in-Err-2 c = sym (value_of-none c.args.bytes.now (c.in-Err.ensures.err (λ h. let t : c.is_memory.result ≡ true = c.is_memory.ensures.1 h in cc)))
