use Rattle.std.proofs.Common.{◌≡◌, ◌++◌, drop, map}
use Rattle.pgo_meaning.specs.System.{resource_of}
use Rattle.pgo_model.specs.ModuleText.{flatten}
use Rattle.pgo_log_write.specs.Lines.{accounts_rows}
use Rattle.pgo_log_write.proofs.accounts.push_accounts.Given as goal

abbrev pub invariant-loop-k : goal.invariant-loop-k
invariant-loop-k l = l.bytes.items ++ flatten (accounts_rows (map resource_of l.resources) l.k (drop l.k l.instances) (drop l.k l.accounts)) ≡ l.initial.bytes.items ++ flatten (accounts_rows (map resource_of l.resources) 0 l.instances l.accounts)
