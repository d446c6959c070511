-- What the loop keeps: the accounts that are left give the same behind the count.
use Rattle.std.proofs.Common.{◌≡◌, map, drop}
use Rattle.pgo_bundle.specs.View.{account_view}
use Rattle.pgo_show_text.specs.Facts as spec
use Rattle.pgo_show_text.proofs.counts.all_attempts.Given as goal

abbrev pub invariant-loop-account : goal.invariant-loop-account
invariant-loop-account l = spec.all_attempts (map account_view l.accounts) ≡ spec.attempts_behind l.count (map account_view (drop l.account-index l.accounts))
