use Rattle.std.proofs.Common.{arith}
use Rattle.pgo_rewrite.proofs.Counts.{bound_counted, before_body, behind_body}
use Rattle.pgo_rewrite.proofs.bound_names.at_body.Goals as goal

pub returns-then-i-as_slice : goal.returns-then-i-as_slice
returns-then-i-as_slice c =
    let e = bound_counted c.as_slice.result.now c.args.list.now c.as_slice.ensures in
    before_body _ c.args.n c.args.i (omega (arith, e))

pub returns-else-i-as_slice : goal.returns-else-i-as_slice
returns-else-i-as_slice c =
    let e = bound_counted c.as_slice.result.now c.args.list.now c.as_slice.ensures in
    behind_body _ c.args.n c.args.i (omega (arith, e))
