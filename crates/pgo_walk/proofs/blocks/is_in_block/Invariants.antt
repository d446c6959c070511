use Rattle.std.proofs.Common.{◌≡◌, drop}
use Rattle.std.specs.Prelude.{reverse}
use Rattle.pgo_walk.specs.FrameView.{frames_view}
use Rattle.pgo_walk.specs.Frames.{has_block}
use Rattle.pgo_walk.proofs.blocks.is_in_block.Given as goal

abbrev pub invariant-loop-frame : goal.invariant-loop-frame
invariant-loop-frame l = has_block (frames_view (reverse l.frames)) ≡ has_block (frames_view (reverse (drop l.frame-index l.frames)))
