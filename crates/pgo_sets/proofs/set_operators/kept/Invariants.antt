use Rattle.std.proofs.Common.{◌≡◌, ◌++◌, map, drop, filter}
use Rattle.pgo_base.specs.View.{data_of}
use Rattle.pgo_model.specs.Operators.{contains}
use Rattle.pgo_sets.specs.Kept.{same_truth}
use Rattle.pgo_sets.proofs.set_operators.kept.Given as goal

abbrev pub invariant-loop-m : goal.invariant-loop-m
invariant-loop-m l = map data_of l.members.items ++ filter (λ m. same_truth l.inside (contains m l.b)) (map data_of (drop l.m-index l.m-items)) ≡ filter (λ m. same_truth l.inside (contains m l.b)) (map data_of l.m-items)
