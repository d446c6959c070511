use Rattle.std.proofs.Common.{◌≡◌, ◌++◌, drop, map}
use Rattle.pgo_bundle.specs.Accounts.{read_accounts_lines}
use Rattle.pgo_bundle.specs.View.{account_view}
use Rattle.pgo_model.specs.ModuleText.{flatten}
use Rattle.pgo_log_write.proofs.log.push_accounts.Given as goal

abbrev pub invariant-loop-k : goal.invariant-loop-k
invariant-loop-k l = l.bytes.items ++ flatten (read_accounts_lines l.k (map account_view (drop l.k l.accounts))) ≡ l.initial.bytes.items ++ flatten (read_accounts_lines 0 (map account_view l.accounts))
