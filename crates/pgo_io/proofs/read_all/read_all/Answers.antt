use Rattle.std.proofs.Common.{◌≤◌, arith}
use Rattle.pgo_io.proofs.Pieces.{loses_more}
use Rattle.pgo_io.proofs.read_all.read_all.Goals as goal

pub returns-then-limit-len-clause-taken : goal.returns-then-limit-len-clause-taken
returns-then-limit-len-clause-taken g c =
    let in_block : c.in_ok-n.n ≤ 8192 = omega (arith, c.in_ok-n.ensures.bound) in
    loses_more _ _ _ _ _ _ _ _ c.reading.invariant.taken c.reading.invariant.within c.in_ok-n.ensures.bytes in_block

pub returns-in_err-extend_from_slice-clause-taken :
    goal.returns-in_err-extend_from_slice-clause-taken
returns-in_err-extend_from_slice-clause-taken g c =
    let in_block : c.in_ok-n.n ≤ 8192 = omega (arith, c.in_ok-n.ensures.bound) in
    loses_more _ _ _ _ _ _ _ _ c.reading.invariant.taken c.reading.invariant.within c.in_ok-n.ensures.bytes in_block
