use Rattle.std.proofs.Common.{◌≡◌, ◌++◌, map, drop}
use Rattle.pgo_meaning.specs.System.{resource_of}
use Rattle.pgo_resource.proofs.layout.copied_resources.Given as goal

abbrev pub invariant-loop-r : goal.invariant-loop-r
invariant-loop-r l = map resource_of l.items ≡ map resource_of l.list.items ++ map resource_of (drop l.r-index l.items)
