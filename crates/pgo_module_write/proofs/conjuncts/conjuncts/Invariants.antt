use Rattle.std.proofs.Common.{◌≡◌, [], map, reverse}
use Rattle.pgo_base.specs.TreeSize.{height}
use Rattle.pgo_model.specs.ModuleText.{conjuncts}
use Rattle.pgo_module_write.proofs.conjuncts.conjuncts.Given as goal

abbrev pub invariant-loop-a : goal.invariant-loop-a
invariant-loop-a l = conjuncts l.left (map (λ r. r.now) (reverse l.items.items)) ≡ conjuncts l.fn.e []

abbrev pub decreases-loop-a : goal.decreases-loop-a
decreases-loop-a l = height l.left
