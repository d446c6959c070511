-- What the loop keeps: what is made and what is left are the whole.
use Rattle.std.proofs.Common.{◌≡◌, ◌++◌, map, drop}
use Rattle.pgo_uses.proofs.tables.add_definitions.Given as goal

abbrev pub invariant-loop-d : goal.invariant-loop-d
invariant-loop-d l = map (λ d. d.now) l.all.items ++ drop l.d-index l.d-items ≡ map (λ d. d.now) l.initial.all.items ++ l.list
