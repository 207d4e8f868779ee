use Rattle.vr_first_insert.proofs.RowFacts.{nothing_after, nothing_cleared}
use Rattle.vr_first_insert.proofs.known_items.KnownItems.forget.Goals as goal

pub returns-then-self-lt18446744073709551615-clause-nothing : goal.returns-then-self-lt18446744073709551615-clause-nothing
returns-then-self-lt18446744073709551615-clause-nothing c = nothing_after c.self.inside.changes c.self.inside.found c.self.invariant

pub returns-clause-nothing : goal.returns-clause-nothing
returns-clause-nothing c = nothing_cleared c.clear.new.found c.clear.ensures.since
