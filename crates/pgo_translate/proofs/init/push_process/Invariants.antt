use Rattle.std.proofs.Common.{◌≡◌, ◌++◌, drop, map}
use Rattle.pgo_translate.specs.ModuleOf.{own_starts}
use Rattle.pgo_translate.proofs.init.push_process.Given as goal

abbrev pub invariant-loop-d : goal.invariant-loop-d
invariant-loop-d l =
    l.items.items ++ map (λ d. own_starts l.process.ids d.name.name d.initial) (drop l.d-index l.process.variables)
    ≡ l.initial.items.items ++ map (λ d. own_starts l.process.ids d.name.name d.initial) l.process.variables
