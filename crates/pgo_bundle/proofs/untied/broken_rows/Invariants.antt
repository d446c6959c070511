use Rattle.std.proofs.Common.{◌≡◌, drop, map}
use Rattle.pgo_bundle.specs.Tables as tables
use Rattle.pgo_bundle.specs.View.{account_view}
use Rattle.pgo_bundle.specs.ClaimView.{rows_view}
use Rattle.pgo_bundle.proofs.untied.broken_rows.Given as goal

abbrev pub invariant-loop-k : goal.invariant-loop-k
invariant-loop-k l = tables.broken_rows (rows_view (drop l.k l.table)) l.k (map account_view (drop l.k l.accounts)) ≡ tables.broken_rows (rows_view l.table) 0 (map account_view l.accounts)
