use Rattle.std.proofs.Common.{◌≡◌, drop, map, option_map}
use Rattle.pgo_base.specs.View.{data_of}
use Rattle.pgo_syntax.specs.Statement.{guarded}
use Rattle.pgo_syntax.specs.StatementView.{branch_parts}
use Rattle.pgo_macro_run.specs.AroundView.{value_in, env_of}
use Rattle.pgo_macro_run.specs.Chosen.{chosen}
use Rattle.pgo_macro_run.proofs.step.taken.Given as goal

abbrev pub invariant-loop-b : goal.invariant-loop-b
invariant-loop-b l =
    chosen (λ e. value_in l.around e (env_of l.names) (option_map data_of l.content)) (guarded (map branch_parts (drop l.b-index l.branches)))
    ≡ chosen (λ e. value_in l.around e (env_of l.names) (option_map data_of l.content)) (guarded (map branch_parts l.branches))
