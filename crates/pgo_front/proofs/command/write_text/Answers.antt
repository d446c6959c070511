use Rattle.std.proofs.Common.{arith, length-drop, ◌∙◌}
use Rattle.pgo_base.proofs.Inserting.{on_err}
use Rattle.pgo_front.proofs.PiecesWritten.{piece_written, piece_in_part}
use Rattle.pgo_front.proofs.command.write_text.Goals as goal

pub returns-in_err-write_all-clause-prefix : goal.returns-in_err-write_all-clause-prefix
returns-in_err-write_all-clause-prefix g c =
    on_err c.from_residual.result
    (piece_in_part _ _ _ c.args.text.now c.first_line-line.result.now c.loop-done.done c.first_line-line.ensures.front c.loop-done.invariant.grows c.in_err-write_all.ensures.prefix)

pub loop-done-preserved : goal.loop-done-preserved
loop-done-preserved g c = record {
  within = omega (arith, c.first_line-line.ensures.within, c.loop-done-test.true, length-drop c.loop-done.done c.args.text.now);
  grows = piece_written _ _ _ c.args.text.now c.first_line-line.result.now c.loop-done.done c.first_line-line.ensures.front c.loop-done.invariant.grows c.in_ok-write_all.ensures.all;
  steady = c.in_ok-write_all.ensures.steady ∙ c.loop-done.invariant.steady;
}
