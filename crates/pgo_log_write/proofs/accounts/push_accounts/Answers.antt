use Rattle.std.proofs.Common.{◌<◌, ◌≤◌, ◌++◌, min, map, length, ap, sym, ◌∙◌, append-nil, arith}
use Rattle.pgo_meaning.specs.System.{resource_of}
use Rattle.pgo_model.specs.ModuleText.{flatten}
use Rattle.pgo_log_write.proofs.Joined.{account_step, rows_end}
use Rattle.pgo_log_write.proofs.accounts.push_accounts.Goals as goal

pub loop-k-preserved : goal.loop-k-preserved
loop-k-preserved c =
    let is = c.args.instances.now in
    let list = c.args.accounts.now in
    let in_instances : c.loop-k.k < length is = omega (arith, c.loop-k-test.true, c.min-k-end.ensures) in
    let in_accounts : c.loop-k.k < length list = omega (arith, c.loop-k-test.true, c.min-k-end.ensures) in
    account_step (map resource_of c.args.resources.now) is list c.loop-k.k c.index-instances-k.result c.index-accounts-k.result c.loop-k.bytes.items c.push_account.new.bytes.items _
    in_instances c.index-instances-k.is in_accounts c.index-accounts-k.is c.in_ok-push_account.ensures c.loop-k.invariant

pub returns : goal.returns
returns c =
    let is = c.args.instances.now in
    let list = c.args.accounts.now in
    let rs = map resource_of c.args.resources.now in
    let passed : min (length is) (length list) ≤ c.loop-k.k = omega (arith, c.loop-k-test.false, c.min-k-end.ensures) in
    sym (append-nil c.loop-k.bytes.items) ∙ ap (λ ls. c.loop-k.bytes.items ++ flatten ls) (sym (rows_end rs c.loop-k.k c.loop-k.k is list passed)) ∙ c.loop-k.invariant
