use Rattle.pgo_meaning.proofs.Traces.{trace_resources, trace_bound}
use Rattle.pgo_meaning.proofs.sections_touch.Goals as goal

pub returns-clause-resources : goal.returns-clause-resources
returns-clause-resources c b k i s d at_k sound gb keeps is =
    trace_resources c.sections_keep.ensures.traces b k i s d at_k sound gb keeps is

pub returns-clause-bound : goal.returns-clause-bound
returns-clause-bound c b k i s d at_k keeps = trace_bound c.sections_keep.ensures.traces b k i s d at_k keeps
