use Rattle.std.proofs.Common.{◌≡◌, drop, option_map}
use Rattle.pgo_base.specs.View.{data_of}
use Rattle.pgo_macro_run.specs.AroundView.{value_in, env_of, Begins}
use Rattle.pgo_macro_run.specs.Assigned as assigned
use Rattle.pgo_macro_run.proofs.assign.indices.Given as goal

abbrev pub invariant-loop-s : goal.invariant-loop-s
invariant-loop-s l =
    Begins l.initial.names.items l.names.items
    × (assigned.indices (value_in l.around) (drop l.s-index l.path) l.mark (env_of l.names.items) (option_map data_of l.content)
    ≡ assigned.indices (value_in l.around) l.path l.initial.mark (env_of l.initial.names.items) (option_map data_of l.content))
