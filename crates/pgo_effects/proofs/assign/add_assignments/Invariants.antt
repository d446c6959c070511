use Rattle.std.proofs.Common.{◌≡◌, [], map, drop}
use Rattle.pgo_meaning.specs.Statements.{assign_all}
use Rattle.pgo_effects.specs.Around.{around_view}
use Rattle.pgo_effects.specs.Pieces.{code_with}
use Rattle.pgo_effects.specs.Puts.{puts_assignment}
use Rattle.pgo_effects.specs.SettingView.{setting_view}
use Rattle.pgo_effects.specs.Todos.{codes_of}
use Rattle.pgo_effects.proofs.assign.add_assignments.Given as goal

abbrev pub invariant-loop-a : goal.invariant-loop-a
invariant-loop-a l =
    code_with l.effects.items (assign_all (setting_view l.setting) (map (puts_assignment (around_view l.around).layers) (drop l.a-index l.list)) l.used (codes_of (setting_view l.setting) l.todos.items)) ≡ code_with l.initial.effects.items (assign_all (setting_view l.setting) (map (puts_assignment (around_view l.around).layers) l.list) 0 [])
