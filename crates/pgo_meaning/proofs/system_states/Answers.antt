use Rattle.pgo_meaning.proofs.BoundKinds.{globals_bound}
use Rattle.pgo_meaning.proofs.SystemStates.{states_same}
use Rattle.pgo_meaning.proofs.system_states.Goals as goal

pub returns-clause-same : goal.returns-clause-same
returns-clause-same c b s sound gb = states_same b s sound gb

pub returns-clause-bound : goal.returns-clause-bound
returns-clause-bound c s consts refs = globals_bound s consts refs
