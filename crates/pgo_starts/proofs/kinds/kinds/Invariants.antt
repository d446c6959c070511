-- A global is in the map, or bound by a channel in what is left, where it is in all.
use Rattle.std.proofs.Common.{◌≡◌, drop}
use Rattle.std.specs.Prelude.{◌||◌}
use Rattle.pgo_base.specs.Lookup.{Name}
use Rattle.pgo_base.specs.NameMaps.{has_name}
use Rattle.pgo_starts.specs.Mailboxes.{some_by_channel}
use Rattle.pgo_starts.proofs.kinds.kinds.Given as goal

abbrev pub invariant-loop-instance : goal.invariant-loop-instance
invariant-loop-instance l = (g : Name) → has_name l.kinds g || some_by_channel g (drop l.instance-index l.instances) ≡ some_by_channel g l.instances
