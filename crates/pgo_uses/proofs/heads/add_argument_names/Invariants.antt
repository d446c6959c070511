-- What the loop keeps: what is made and what is left are the whole.
use Rattle.std.proofs.Common.{◌≡◌, ◌++◌, drop}
use Rattle.pgo_uses.specs.PieceView.{placed_names}
use Rattle.pgo_uses.specs.Heads.{argument_names}
use Rattle.pgo_uses.proofs.heads.add_argument_names.Given as goal

abbrev pub invariant-loop-argument : goal.invariant-loop-argument
invariant-loop-argument l = placed_names l.out.items ++ argument_names (drop l.argument-index l.list) ≡ placed_names l.initial.out.items ++ argument_names l.list
