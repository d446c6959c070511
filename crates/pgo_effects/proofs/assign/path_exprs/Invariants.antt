use Rattle.std.proofs.Common.{◌≡◌, map, take}
use Rattle.pgo_base.specs.ExprView.{tree}
use Rattle.pgo_meaning.specs.Statements.{part_tree}
use Rattle.pgo_effects.specs.Assigned.{part_view}
use Rattle.pgo_effects.proofs.assign.path_exprs.Given as goal

abbrev pub invariant-loop-part : goal.invariant-loop-part
invariant-loop-part l = map tree l.list.items ≡ map (λ p. part_tree (part_view p)) (take l.part-index l.path)
