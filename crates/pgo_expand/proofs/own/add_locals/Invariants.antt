use Rattle.std.proofs.Common.{◌≡◌, ◌++◌, map, drop}
use Rattle.pgo_pluscal.specs.PlusCalOf.{local_declaration}
use Rattle.pgo_expand.proofs.own.add_locals.Given as goal

abbrev pub invariant-loop-d : goal.invariant-loop-d
invariant-loop-d l =
    l.fn.list.items ++ map (local_declaration l.process) l.locals ≡ l.list.items ++ map (local_declaration l.process) (drop l.d-index l.locals)
