use Rattle.std.proofs.Common.{rules}
use Rattle.pgo_check.proofs.Variables.{names_more}
use Rattle.pgo_check.proofs.definitions.have_same_names.Goals as goal

pub loop-i-preserved : goal.loop-i-preserved
loop-i-preserved c =
    (c.loop-i.invariant.0, λ h. c.loop-i.invariant.1 (names_more c.args.a.now c.args.b.now c.loop-i.i c.index-a-i.result c.index-b-i.result (search rules) (search rules) (search rules) (search rules) (search rules) h))
