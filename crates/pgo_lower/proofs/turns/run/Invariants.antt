use Rattle.std.proofs.Common.{◌≡◌}
use Rattle.pgo_effects.specs.SettingView.{setting_view}
use Rattle.pgo_lower.specs.Slots.{tables_of}
use Rattle.pgo_lower.specs.Made.{steps_here}
use Rattle.pgo_lower.specs.Work.{tasks_before}
use Rattle.pgo_lower.proofs.turns.run.Given as goal

abbrev pub invariant-loop-left : goal.invariant-loop-left
invariant-loop-left l =
    tasks_before (setting_view l.names.setting) (tables_of l.names) l.tasks (steps_here l.made)
    ≡ tasks_before (setting_view l.names.setting) (tables_of l.names) l.initial.tasks (steps_here l.initial.made)

abbrev pub decreases-loop-left : goal.decreases-loop-left
decreases-loop-left l = l.left
