use Rattle.std.proofs.Common.{◌≡◌, List, map, take}
use Rattle.pgo_base.specs.Lookup.{Name}
use Rattle.pgo_effects.specs.SettingView.{setting_view}
use Rattle.pgo_effects.specs.Todos.{code_of}
use Rattle.pgo_walk.specs.Emitted.{left_in, with_frame}
use Rattle.pgo_walk.specs.Frames.{Run}
use Rattle.pgo_walk.specs.SettingPlaces.{places_in}
use Rattle.pgo_walk.proofs.last.either_turn.Given as goal

abbrev pub invariant-loop-todo : goal.invariant-loop-todo
invariant-loop-todo l = (vs : List Name) →
    map (left_in vs) l.arms.items
    ≡ map (λ t. with_frame vs l.state (Run (places_in l.setting) (code_of (setting_view l.setting) t) l.renames)) (take l.todo-index l.todos)
