use Rattle.std.proofs.Common.{sym, arith}
use Rattle.pgo_scope.proofs.Only.{not_only}
use Rattle.pgo_scope.proofs.usage.only.Goals as goal

pub returns-else-items-eq1 : goal.returns-else-items-eq1
returns-else-items-eq1 c = sym (not_only c.as_slice-items.result.now c.args.list.now c.as_slice-items.ensures (λ h. omega arith))
