use Rattle.std.proofs.Common.{◌≡◌, ◌++◌, drop, map}
use Rattle.pgo_base.specs.Tree.{name}
use Rattle.pgo_module_read.proofs.build.all_names.Given as goal

abbrev pub invariant-loop-x : goal.invariant-loop-x
invariant-loop-x l = map name l.names ≡ l.list ++ map name (drop l.x-index l.names)
