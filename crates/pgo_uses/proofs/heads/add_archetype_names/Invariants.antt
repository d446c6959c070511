-- What the loop keeps: what is made and what is left are the whole.
use Rattle.std.proofs.Common.{◌≡◌, ◌++◌, drop}
use Rattle.pgo_uses.specs.PieceView.{placed_names}
use Rattle.pgo_uses.specs.Heads.{archetype_names}
use Rattle.pgo_uses.proofs.heads.add_archetype_names.Given as goal

abbrev pub invariant-loop-r : goal.invariant-loop-r
invariant-loop-r l = placed_names l.out.items ++ archetype_names (drop l.r-index l.r-items) ≡ placed_names l.initial.out.items ++ archetype_names l.r-items
