use Rattle.vr_costfilter.proofs.GlobalLemmas.{stands-like}
use Rattle.vr_costfilter.proofs.global_span.GlobalSpanCostPart.prepare.Goals as goal

pub returns-clause-stands : goal.returns-clause-stands
returns-clause-stands c = stands-like c.args.self.now c.make_ready.new.self c.args.routes.now c.requires.stands c.make_ready.ensures.like

pub make_ready-requires : goal.make_ready-requires
make_ready-requires c = record { change = record { stands = c.requires.stands; made = c.requires.made; valid = c.requires.valid } }
