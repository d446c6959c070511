-- What the loop keeps: what is made and what is left are the whole.
use Rattle.std.proofs.Common.{◌≡◌, ◌++◌, map, drop}
use Rattle.pgo_base.specs.ExprView.{arm_tree}
use Rattle.pgo_base.specs.Tree.{arms}
use Rattle.pgo_uses.specs.Pieces.{arm_pieces}
use Rattle.pgo_uses.specs.PieceView.{see}
use Rattle.pgo_uses.specs.declared.pieces.Manner.TheVariants.{Plain}
use Rattle.pgo_uses.proofs.piece_lists.add_arms.Given as goal

abbrev pub invariant-loop-arm : goal.invariant-loop-arm
invariant-loop-arm l =
    map see l.pieces.items ++ arm_pieces l.manner (arms (map arm_tree (drop l.arm-index l.arm-items))) ≡ map see l.initial.pieces.items ++ arm_pieces Plain (arms l.list)
