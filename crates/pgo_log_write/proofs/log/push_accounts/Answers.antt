use Rattle.std.proofs.Common.{◌+◌, refl, add-one}
use Rattle.pgo_bundle.specs.Accounts.{account_lines, read_accounts_lines}
use Rattle.pgo_bundle.specs.View.{account_view}
use Rattle.pgo_log_write.proofs.Joined.{each_step}
use Rattle.pgo_log_write.proofs.log.push_accounts.Goals as goal

pub loop-k-preserved : goal.loop-k-preserved
loop-k-preserved c =
    let k = c.loop-k.k in
    each_step account_view account_lines read_accounts_lines (λ n y ys. refl) c.args.accounts.now k k (k + 1) c.index-accounts-k.result c.loop-k.bytes.items c.push_account.new.bytes.items _ c.loop-k-test.true c.index-accounts-k.is
    (add-one k) c.in_ok-push_account.ensures c.loop-k.invariant
