use Rattle.std.proofs.Common.{◌≡◌, drop, option_map}
use Rattle.pgo_base.specs.View.{data_of}
use Rattle.pgo_macro_run.specs.AroundView.{value_in, env_of, Begins}
use Rattle.pgo_macro_run.specs.Assigned as assigned
use Rattle.pgo_macro_run.proofs.assign.all_operands.Given as goal

abbrev pub invariant-loop-a : goal.invariant-loop-a
invariant-loop-a l =
    Begins l.initial.names.items l.names.items
    × (assigned.all_operands (value_in l.around) (drop l.a-index l.list) l.mark (env_of l.names.items) (option_map data_of l.content)
    ≡ assigned.all_operands (value_in l.around) l.list l.initial.mark (env_of l.initial.names.items) (option_map data_of l.content))
