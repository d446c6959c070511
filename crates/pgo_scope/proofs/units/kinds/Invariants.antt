-- What the loop keeps: what is made and what is left are the whole.
use Rattle.std.proofs.Common.{◌≡◌, ◌++◌, drop}
use Rattle.pgo_scope.specs.Targets.{is_named, kinds_by}
use Rattle.pgo_scope.proofs.units.kinds.Given as goal

abbrev pub invariant-loop-n : goal.invariant-loop-n
invariant-loop-n l = l.kinds.items ++ kinds_by (is_named l.named l.archetype) l.n (drop l.n l.params) ≡ kinds_by (is_named l.named l.archetype) 0 l.params
