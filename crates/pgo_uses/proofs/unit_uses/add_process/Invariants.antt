-- What the loop keeps: what is made and what is left are the whole.
use Rattle.std.proofs.Common.{◌≡◌, ◌++◌, drop}
use Rattle.pgo_uses.specs.AllUses.{value_uses}
use Rattle.pgo_uses.proofs.unit_uses.add_process.Given as goal

abbrev pub invariant-loop-argument : goal.invariant-loop-argument
invariant-loop-argument l =
    l.out.items ++ value_uses (drop l.argument-index l.argument-items) ≡ l.initial.out.items ++ value_uses l.argument-items
