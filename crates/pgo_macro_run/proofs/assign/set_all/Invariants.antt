use Rattle.std.proofs.Common.{◌≡◌, drop, option_map}
use Rattle.pgo_base.specs.View.{data_of}
use Rattle.pgo_macro_run.specs.AroundView.{value_in, env_of}
use Rattle.pgo_macro_run.specs.Assigned as assigned
use Rattle.pgo_macro_run.specs.Assigned.{first_mark}
use Rattle.pgo_macro_run.proofs.assign.set_all.Given as goal

abbrev pub invariant-loop-a : goal.invariant-loop-a
invariant-loop-a l =
    assigned.set_all (value_in l.around) (drop l.a-index l.list) l.mark (env_of l.names) (option_map data_of l.content)
    ≡ assigned.set_all (value_in l.around) l.list first_mark (env_of l.names) (option_map data_of l.initial.content)
