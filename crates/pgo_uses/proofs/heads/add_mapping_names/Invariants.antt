-- What the loop keeps: what is made and what is left are the whole.
use Rattle.std.proofs.Common.{◌≡◌, ◌++◌, drop}
use Rattle.pgo_uses.specs.PieceView.{placed_names}
use Rattle.pgo_uses.specs.Heads.{mapping_names}
use Rattle.pgo_uses.proofs.heads.add_mapping_names.Given as goal

abbrev pub invariant-loop-m : goal.invariant-loop-m
invariant-loop-m l = placed_names l.out.items ++ mapping_names (drop l.m-index l.m-items) ≡ placed_names l.initial.out.items ++ mapping_names l.m-items
