use Rattle.std.proofs.Common.{◌≡◌, suc, drop, map}
use Rattle.pgo_bundle.specs.Tables as spec
use Rattle.pgo_bundle.specs.View.{logged_entry_view}
use Rattle.pgo_bundle.specs.ClaimView.{table_view}
use Rattle.pgo_bundle.proofs.claims.put_entries.Given as goal

abbrev pub invariant-loop-i : goal.invariant-loop-i
invariant-loop-i l = spec.put_entries (suc l.i) (map logged_entry_view (drop l.i l.entries)) (table_view l.table) ≡ spec.put_entries 1 (map logged_entry_view l.entries) (table_view l.fn.table)
