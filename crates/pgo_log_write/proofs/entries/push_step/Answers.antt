use Rattle.std.proofs.Common.{◌++◌, length, ap}
use Rattle.std.proofs.lemmas.Result.{IfOk-equal}
use Rattle.pgo_log_write.proofs.Joined.{step_joined}
use Rattle.pgo_log_write.proofs.entries.push_step.Goals as goal

pub returns : goal.returns
returns c =
    let e = c.args.entry.now in
    IfOk-equal c.push_line.result _ _ _ c.push_line.ensures
    (ap (λ t. c.args.bytes.now.items ++ t)
    (step_joined c.args.n e.instance e.attempt _ _ e.label e.next _ e.changes _ _ c.as_bytes.ensures c.as_bytes-2.ensures (ap length c.as_slice.ensures) c.prints_count.ensures))
