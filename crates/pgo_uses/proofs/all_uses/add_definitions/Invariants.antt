-- What the loop keeps: what is made and what is left are the whole.
use Rattle.std.proofs.Common.{◌≡◌, ◌++◌, map, drop}
use Rattle.pgo_uses.specs.AllUses.{definitions_uses}
use Rattle.pgo_uses.proofs.all_uses.add_definitions.Given as goal

abbrev pub invariant-loop-i : goal.invariant-loop-i
invariant-loop-i l = l.out.items ++ definitions_uses l.i (map (λ d. d.now) (drop l.i l.d-items)) ≡ l.initial.out.items ++ definitions_uses 0 (map (λ d. d.now) l.d-items)
