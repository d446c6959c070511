use Rattle.std.proofs.Common.{◌≡◌, ◌++◌, map, drop}
use Rattle.pgo_expand.proofs.names.add_names.Given as goal

abbrev pub invariant-loop-d : goal.invariant-loop-d
invariant-loop-d l = l.fn.names.items ++ map (λ d. d.name.name) l.list ≡ l.names.items ++ map (λ d. d.name.name) (drop l.d-index l.list)
