-- What the loop keeps: what is made and what is left are the whole.
use Rattle.std.proofs.Common.{◌≡◌, ◌++◌, drop}
use Rattle.pgo_uses.specs.AllUses.{mappings_uses}
use Rattle.pgo_uses.proofs.all_uses.add_mappings.Given as goal

abbrev pub invariant-loop-m : goal.invariant-loop-m
invariant-loop-m l = l.out.items ++ mappings_uses (drop l.m-index l.m-items) ≡ l.initial.out.items ++ mappings_uses l.m-items
