use Rattle.std.proofs.Common.{◌≡◌, ◌++◌, drop}
use Rattle.pgo_translate.specs.ModuleOf.{declared}
use Rattle.pgo_translate.proofs.translate.push_declared.Given as goal

abbrev pub invariant-loop-d : goal.invariant-loop-d
invariant-loop-d l = l.names.items ++ declared (drop l.d-index l.declarations) ≡ l.initial.names.items ++ declared l.declarations
