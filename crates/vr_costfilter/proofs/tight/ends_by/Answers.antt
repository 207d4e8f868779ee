use Rattle.vr_costfilter.proofs.WayLemmas.{end-read, gone-fits, start-read}
use Rattle.vr_costfilter.proofs.tight.ends_by.Goals as goal

pub overflow_sub-whole : goal.overflow_sub-whole
overflow_sub-whole c = gone-fits c.requires.1

pub returns-clause-last : goal.returns-clause-last
returns-clause-last c = end-read c.requires.1

pub returns-clause-start : goal.returns-clause-start
returns-clause-start c = start-read c.requires.1 c.min.result c.min.ensures.value
