use Rattle.std.proofs.Common.{◌≡◌, length}
use Rattle.pgo_walk.specs.FrameView.{frames_view}
use Rattle.pgo_walk.specs.Frames.{block_in}
use Rattle.pgo_walk.proofs.blocks.leave_block.Given as goal

abbrev pub invariant-loop-frame : goal.invariant-loop-frame
invariant-loop-frame l = block_in (frames_view l.initial.frames) ≡ block_in (frames_view l.frames)

abbrev pub decreases-loop-frame : goal.decreases-loop-frame
decreases-loop-frame l = length l.frames
