-- What the loop keeps: what is gathered and what is left are the whole.
use Rattle.std.proofs.Common.{◌≡◌, ℕ, false, drop}
use Rattle.pgo_base.specs.Lookup.{Name}
use Rattle.pgo_scope.specs.Targets.{is_named, some_process_or}
use Rattle.pgo_scope.proofs.targets.named_parameters.Given as goal

abbrev pub invariant-loop-p : goal.invariant-loop-p
invariant-loop-p l = (r : Name) (n : ℕ) → some_process_or (is_named l.named r n) r n (drop l.p-index l.list) ≡ some_process_or false r n l.list
