use Rattle.std.proofs.Common.{◌≤◌, map, drop, length}
use Rattle.pgo_base.specs.Lists.{StandOnce}
use Rattle.pgo_base.specs.NameMaps.{has_name}
use Rattle.pgo_base.specs.States.{name_in}
use Rattle.pgo_base.specs.View.{named_data}
use Rattle.pgo_base.proofs.NamesOnce.{Covers}
use Rattle.pgo_base.proofs.scope.stand_once.Given as goal

abbrev pub invariant-loop-i : goal.invariant-loop-i
invariant-loop-i l = Covers (has_name l.names) (drop l.i l.list) × StandOnce (map name_in (map named_data (drop l.i l.list))) × (l.i ≤ length l.list)

abbrev pub decreases-loop-i : goal.decreases-loop-i
decreases-loop-i l = l.i
