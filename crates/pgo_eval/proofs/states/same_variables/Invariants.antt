use Rattle.std.proofs.Common.{◌≡◌, drop}
use Rattle.std.specs.Prelude.{◌&&◌, option_map}
use Rattle.pgo_model.specs.Val.{same_variables}
use Rattle.pgo_eval.proofs.states.same_variables.Given as goal

abbrev pub invariant-loop-x : goal.invariant-loop-x
invariant-loop-x l = same_variables l.names l.around.state.now l.next ≡ option_map (λ q. l.all && q) (same_variables (drop l.x-index l.names) l.around.state.now l.next)
