-- What the loop keeps: what is made and what is left are the whole.
use Rattle.std.proofs.Common.{◌≡◌, [], ◌++◌, drop}
use Rattle.pgo_scope.specs.Clash.{labels_from}
use Rattle.pgo_scope.proofs.module_names.add_labels.Given as goal

abbrev pub invariant-loop-u : goal.invariant-loop-u
invariant-loop-u l = l.out.items ++ labels_from l.before (drop l.u-index l.uses) ≡ l.initial.out.items ++ labels_from [] l.uses
