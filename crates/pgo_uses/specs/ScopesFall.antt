-- The names in scope that stand around others are in fewer groups than those with the others.
use Rattle.std.specs.Prelude.{◌≤◌, max, length}
use Rattle.std.proofs.Common.{arith}
use Rattle.pgo_uses.specs.declared.scopes.Link.{Link}
use Rattle.pgo_uses.specs.declared.scopes.Link.TheVariants.{Empty, All, Within}
use Rattle.pgo_uses.specs.declared.scopes.Scope.TheDeep.{deep-Link}
use Rattle.pgo_uses.specs.ScopeView.{groups_of}

pub link_falls : (l : Link) → max (deep-Link l) 0 ≤ length (groups_of l)
link_falls Empty = omega arith
link_falls (All ns) = omega arith
link_falls (Within ns n s) = omega arith
