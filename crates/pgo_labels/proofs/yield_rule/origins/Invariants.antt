-- What is made and what is left are the whole.
use Rattle.std.proofs.Common.{◌≡◌, ◌++◌, map, drop}
use Rattle.pgo_base.specs.Tree.{Tree}
use Rattle.pgo_syntax.specs.declared.binding.WithName.{WithName}
use Rattle.pgo_syntax.specs.Origins.{origin_tree}
use Rattle.pgo_operands.specs.Operands.{lent_trees}
use Rattle.pgo_labels.proofs.yield_rule.origins.Given as goal

abbrev pub invariant-loop-one : goal.invariant-loop-one
invariant-loop-one l =
    let f : WithName → Tree = λ w. origin_tree w.origin in
    lent_trees l.parts.items ++ map f (drop l.one-index l.list) ≡ map f l.names
