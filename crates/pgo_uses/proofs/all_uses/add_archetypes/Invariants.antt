-- What the loop keeps: what is made and what is left are the whole.
use Rattle.std.proofs.Common.{◌≡◌, ◌++◌, drop}
use Rattle.pgo_uses.specs.AllUses.{archetypes_uses}
use Rattle.pgo_uses.proofs.all_uses.add_archetypes.Given as goal

abbrev pub invariant-loop-i : goal.invariant-loop-i
invariant-loop-i l = l.out.items ++ archetypes_uses l.i (drop l.i l.list) ≡ l.initial.out.items ++ archetypes_uses 0 l.list
