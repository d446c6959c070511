use Rattle.std.proofs.Common.{◌≡◌, ◌-◌, length, take}
use Rattle.pgo_effects.specs.SettingView.{setting_view}
use Rattle.pgo_effects.specs.Todos.{codes_of}
use Rattle.pgo_walk.specs.FrameView.{frames_view}
use Rattle.pgo_walk.specs.Frames.{runs}
use Rattle.pgo_walk.specs.SettingPlaces.{places_in}
use Rattle.pgo_walk.proofs.pushes.push_codes.Given as goal

abbrev pub invariant-loop-i : goal.invariant-loop-i
invariant-loop-i l =
    runs (places_in l.setting) l.renames (codes_of (setting_view l.setting) l.todos) (frames_view l.initial.frames)
    ≡ runs (places_in l.setting) l.renames (codes_of (setting_view l.setting) (take (length l.todos - l.i) l.todos)) (frames_view l.frames)
