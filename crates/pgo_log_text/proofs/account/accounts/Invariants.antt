-- What the loop keeps: what is left to read gives the same.
use Rattle.std.proofs.Common.{◌≡◌, ◌-◌, [], map}
use Rattle.pgo_bundle.specs.View.{account_view}
use Rattle.pgo_log_text.specs.Lines as spec
use Rattle.pgo_log_text.proofs.account.accounts.Given as goal

abbrev pub invariant-parts : goal.invariant-parts
invariant-parts l = spec.accounts spec.most_parts 0 [] l.fn.cursor ≡ spec.accounts (spec.most_parts - l.count) l.count (map account_view l.accounts) l.cursor

abbrev pub decreases-parts : goal.decreases-parts
decreases-parts l = spec.most_parts - l.count
