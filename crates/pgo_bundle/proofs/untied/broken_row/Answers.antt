use Rattle.std.proofs.Common.{◌≤◌, min, length, sym, ◌∙◌, arith}
use Rattle.pgo_bundle.specs.View.{attempt_view}
use Rattle.pgo_bundle.specs.ClaimView.{claim_view}
use Rattle.pgo_bundle.proofs.TableLaws.{row_end}
use Rattle.pgo_bundle.proofs.untied.broken_row.Goals as goal

pub returns : goal.returns
returns c =
    let r = c.args.row.now in
    let xs = c.args.attempts.now in
    let passed : min (length r) (length xs) ≤ c.loop-i.i = omega (arith, c.loop-i-test.false, c.min-i-end.ensures) in
    sym (row_end claim_view attempt_view c.loop-i.i _ _ _ r xs passed) ∙ c.loop-i.invariant
