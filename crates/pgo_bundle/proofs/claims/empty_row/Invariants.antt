use Rattle.std.proofs.Common.{◌≡◌, take, map}
use Rattle.pgo_bundle.specs.Tables as spec
use Rattle.pgo_bundle.specs.View.{attempt_view}
use Rattle.pgo_bundle.specs.ClaimView.{row_view}
use Rattle.pgo_bundle.proofs.claims.empty_row.Given as goal

abbrev pub invariant-loop-attempt : goal.invariant-loop-attempt
invariant-loop-attempt l = row_view l.row ≡ spec.empty_row (map attempt_view (take l._attempt-index l.attempts))
