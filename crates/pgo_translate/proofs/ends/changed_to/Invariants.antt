use Rattle.std.proofs.Common.{◌≡◌, drop}
use Rattle.pgo_base.specs.Lookup.{find}
use Rattle.pgo_translate.proofs.ends.changed_to.Given as goal

abbrev pub invariant-loop-change : goal.invariant-loop-change
invariant-loop-change l = find l.x (drop l.change-index l.changes) ≡ find l.x l.changes
