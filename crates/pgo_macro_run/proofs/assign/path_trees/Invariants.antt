use Rattle.std.proofs.Common.{◌≡◌, ◌++◌, drop}
use Rattle.pgo_macro_run.specs.Assigned as assigned
use Rattle.pgo_macro_run.proofs.assign.path_trees.Given as goal

abbrev pub invariant-loop-s : goal.invariant-loop-s
invariant-loop-s l =
    let q = assigned.path_trees (drop l.s-index l.path) l.mark in
    assigned.path_trees l.path l.initial.mark ≡ (q.0, l.trees ++ q.1)
