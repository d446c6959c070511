-- What the loop keeps: what is made and what is left are the whole.
use Rattle.std.proofs.Common.{◌≡◌, ◌++◌, drop}
use Rattle.pgo_uses.specs.AllUses.{globals_uses}
use Rattle.pgo_uses.proofs.all_uses.add_globals.Given as goal

abbrev pub invariant-loop-i : goal.invariant-loop-i
invariant-loop-i l = l.out.items ++ globals_uses l.i (drop l.i l.list) ≡ l.initial.out.items ++ globals_uses 0 l.list
