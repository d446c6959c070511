-- What the loop keeps: what is found and what is left are the whole, and how the names before are written.
use Rattle.std.proofs.Common.{◌≡◌, [], ◌++◌, take, drop}
use Rattle.pgo_scope.specs.Clash.{clashes_from}
use Rattle.pgo_scope.specs.Seen.{any_rows, unbound_rows}
use Rattle.pgo_scope.proofs.clash.add_clashes.Given as goal

abbrev pub invariant-loop-i : goal.invariant-loop-i
invariant-loop-i l =
    (l.out.items ++ clashes_from (take l.i l.names) (drop l.i l.names) ≡ l.initial.out.items ++ clashes_from [] l.names)
    × (l.any ≡ any_rows (take l.i l.names)) × (l.unbound ≡ unbound_rows 0 (take l.i l.names))
