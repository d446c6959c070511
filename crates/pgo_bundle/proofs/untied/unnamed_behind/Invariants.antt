use Rattle.std.proofs.Common.{◌≡◌, suc, drop, map}
use Rattle.pgo_bundle.specs.Untied as spec
use Rattle.pgo_bundle.specs.View.{account_view, logged_entry_view}
use Rattle.pgo_bundle.proofs.untied.unnamed_behind.Given as goal

abbrev pub invariant-loop-i : goal.invariant-loop-i
invariant-loop-i l = spec.unnamed_behind (map account_view l.accounts) (suc l.i) (map logged_entry_view (drop l.i l.entries)) ≡ spec.unnamed_behind (map account_view l.accounts) 1 (map logged_entry_view l.entries)
