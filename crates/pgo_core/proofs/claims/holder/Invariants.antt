use Rattle.std.proofs.Common.{◌≡◌, drop}
use Rattle.pgo_core.specs.Claims.{holder_of}
use Rattle.pgo_core.proofs.claims.holder.Given as goal

abbrev pub invariant-loop-claim : goal.invariant-loop-claim
invariant-loop-claim l = holder_of l.claims l.r ≡ holder_of (drop l.claim-index l.claims) l.r
