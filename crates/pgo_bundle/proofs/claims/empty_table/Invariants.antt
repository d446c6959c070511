use Rattle.std.proofs.Common.{◌≡◌, take, map}
use Rattle.pgo_bundle.specs.Tables as spec
use Rattle.pgo_bundle.specs.View.{account_view}
use Rattle.pgo_bundle.specs.ClaimView.{table_view}
use Rattle.pgo_bundle.proofs.claims.empty_table.Given as goal

abbrev pub invariant-loop-a : goal.invariant-loop-a
invariant-loop-a l = table_view l.table ≡ map spec.empty_account (map account_view (take l.a-index l.accounts))
