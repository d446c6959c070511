-- What is left decides.
use Rattle.std.proofs.Common.{◌≡◌, drop}
use Rattle.pgo_meaning.specs.Parameters.{all_mapped}
use Rattle.pgo_put_sizes.specs.Leads as spec
use Rattle.pgo_put_sizes.proofs.passes.all_pass.Given as goal

abbrev pub invariant-loop-binding : goal.invariant-loop-binding
invariant-loop-binding l = spec.all_pass (all_mapped (drop l.binding-index l.bindings)) ≡ spec.all_pass (all_mapped l.bindings)
