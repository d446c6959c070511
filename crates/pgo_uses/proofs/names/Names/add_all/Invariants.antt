-- What the loop keeps: what is made and what is left are the whole.
use Rattle.std.proofs.Common.{◌≡◌, drop}
use Rattle.pgo_base.specs.Lookup.{Name}
use Rattle.pgo_uses.specs.Names.{has_row, among_all}
use Rattle.pgo_uses.proofs.names.Names.add_all.Given as goal

abbrev pub invariant-loop-row : goal.invariant-loop-row
invariant-loop-row l = (x : Name) → among_all (has_row x l.self) (drop l.row-index l.row-items) x ≡ among_all (has_row x l.initial.self) l.row-items x
