use Rattle.std.proofs.Common.{◌≡◌, true}
use Rattle.pgo_core.specs.Claims.{before}
use Rattle.pgo_core.proofs.claims.forget.Given as goal

abbrev pub invariant-loop-index : goal.invariant-loop-index
invariant-loop-index l = (before l.index l.claims.items l.r ≡ true) × (l.claims ≡ l.fn.claims)
