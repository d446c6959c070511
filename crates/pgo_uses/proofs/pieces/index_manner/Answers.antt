use Rattle.std.proofs.Common.{sym, arith}
use Rattle.pgo_uses.proofs.Counts.{single_is, several_is}
use Rattle.pgo_uses.proofs.pieces.index_manner.Goals as goal

pub returns-then-as_slice-eq1 : goal.returns-then-as_slice-eq1
returns-then-as_slice-eq1 c = sym (single_is c.as_slice.result.now c.args.list.now c.as_slice.ensures (omega arith))

pub returns-else-as_slice-eq1 : goal.returns-else-as_slice-eq1
returns-else-as_slice-eq1 c = sym (several_is c.as_slice.result.now c.args.list.now c.as_slice.ensures (λ h. omega arith))
