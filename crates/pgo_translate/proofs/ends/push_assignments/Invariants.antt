use Rattle.std.proofs.Common.{◌≡◌, [], drop, ◌++◌}
use Rattle.pgo_translate.specs.Items.{assignments}
use Rattle.pgo_translate.proofs.ends.push_assignments.Given as goal

abbrev pub invariant-loop-x : goal.invariant-loop-x
invariant-loop-x l =
    l.items.items ++ assignments [] l.globals l.ended.changes.now l.ended.label.now (drop l.x-index l.variables)
    ≡ l.initial.items.items ++ assignments [] l.globals l.ended.changes.now l.ended.label.now l.variables
