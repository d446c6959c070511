use Rattle.std.proofs.Common.{◌≡◌, take}
use Rattle.std.specs.Prelude.{reverse}
use Rattle.pgo_walk.specs.FrameView.{frames_view}
use Rattle.pgo_walk.proofs.copies.copy_frames.Given as goal

abbrev pub invariant-loop-frame : goal.invariant-loop-frame
invariant-loop-frame l = frames_view l.copies ≡ frames_view (reverse (take l.frame-index l.frames))
