use Rattle.std.proofs.Common.{◌≡◌, ◌++◌, drop, map}
use Rattle.pgo_model.specs.ModuleView.{process_view}
use Rattle.pgo_translate.specs.ModuleOf.{written_process}
use Rattle.pgo_translate.proofs.translate.processes.Given as goal

abbrev pub invariant-loop-q : goal.invariant-loop-q
invariant-loop-q l =
    map (written_process l.variables l.globals) l.list
    ≡ map process_view l.written ++ map (written_process l.variables l.globals) (drop l.q-index l.list)
