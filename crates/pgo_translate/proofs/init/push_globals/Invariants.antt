use Rattle.std.proofs.Common.{◌≡◌, ◌++◌, drop, map}
use Rattle.pgo_translate.specs.ModuleOf.{global_starts}
use Rattle.pgo_translate.proofs.init.push_globals.Given as goal

abbrev pub invariant-loop-d : goal.invariant-loop-d
invariant-loop-d l =
    l.items.items ++ map (λ d. global_starts d.name.name d.initial) (drop l.d-index l.globals)
    ≡ l.initial.items.items ++ map (λ d. global_starts d.name.name d.initial) l.globals
