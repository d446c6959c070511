use Rattle.std.proofs.Common.{arith, length-drop, ◌∙◌}
use Rattle.pgo_io.proofs.Pieces.{grows_more}
use Rattle.pgo_io.proofs.write_all.write_all.Goals as goal

pub loop-done-preserved : goal.loop-done-preserved
loop-done-preserved g c = record {
  within = omega (arith, c.in_ok-done.ensures.bound, length-drop c.loop-done.done c.args.piece.now);
  grows = grows_more _ _ _ _ _ _ c.loop-done.invariant.grows c.in_ok-done.ensures.bytes;
  steady = c.in_ok-done.ensures.steady ∙ c.loop-done.invariant.steady;
}
