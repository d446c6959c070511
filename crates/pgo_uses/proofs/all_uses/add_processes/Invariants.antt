-- What the loop keeps: what is made and what is left are the whole.
use Rattle.std.proofs.Common.{◌≡◌, ◌++◌, drop}
use Rattle.pgo_uses.specs.AllUses.{processes_uses}
use Rattle.pgo_uses.proofs.all_uses.add_processes.Given as goal

abbrev pub invariant-loop-p : goal.invariant-loop-p
invariant-loop-p l = l.out.items ++ processes_uses (drop l.p-index l.p-items) ≡ l.initial.out.items ++ processes_uses l.p-items
