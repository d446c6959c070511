use Rattle.std.proofs.Common.{◌≡◌, ◌++◌, drop}
use Rattle.std.specs.List.{flat_map}
use Rattle.pgo_pluscal.specs.Text.{change_text}
use Rattle.pgo_pluscal.proofs.steps.push_changes.Given as goal

abbrev pub invariant-loop-change : goal.invariant-loop-change
invariant-loop-change l = l.bytes.items ++ flat_map (change_text l.level) (drop l.change-index l.changes) ≡ l.initial.bytes.items ++ flat_map (change_text l.level) l.changes
