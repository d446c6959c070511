use Rattle.std.proofs.Common.{◌≡◌, suc, drop, map}
use Rattle.pgo_bundle.specs.Tables as tables
use Rattle.pgo_bundle.specs.View.{attempt_view}
use Rattle.pgo_bundle.specs.ClaimView.{claim_view}
use Rattle.pgo_bundle.proofs.untied.broken_row.Given as goal

abbrev pub invariant-loop-i : goal.invariant-loop-i
invariant-loop-i l = tables.broken_row (map claim_view (drop l.i l.row)) (suc l.i) l.last l.most (map attempt_view (drop l.i l.attempts)) ≡ tables.broken_row (map claim_view l.row) 1 0 0 (map attempt_view l.attempts)
