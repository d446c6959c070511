-- What is still to be done of a section, as it lies in memory.
use Rattle.std.specs.Prelude.{List, map, drop}
use Rattle.pgo_sections.specs.Code.{Code}
use Rattle.pgo_effects.specs.Pieces.{code_with, last_code}
use Rattle.pgo_effects.specs.SettingView.{setting_view}
use Rattle.pgo_walk.specs.Frames as spec
use Rattle.pgo_walk.specs.SettingPlaces.{places_in}
use Rattle.pgo_walk.specs.declared.frames.Run.{Run}
use Rattle.pgo_walk.specs.declared.frames.Frame.{Frame}
use Rattle.pgo_walk.specs.declared.frames.Frame.TheVariants as frames
use Rattle.pgo_walk.specs.declared.frames.State.{State}

-- the code that is not done yet
abbrev pub code_left : Run → Code
code_left r = code_with (drop r.done r.piece.value.effects.items) (last_code (setting_view r.setting) r.piece.value.last)

abbrev pub run_view : Run → spec.Frame
run_view r = spec.Run (places_in r.setting) (code_left r) r.renames

abbrev pub frame_view : Frame → spec.Frame
frame_view (frames.Run r) = run_view r
frame_view (frames.Reading w m i r cur) =
    spec.Reading w m.global.now i (places_in r.setting) (code_left r) r.renames cur
frame_view (frames.Writing m i ren cur) = spec.Writing m.global.now i ren cur
frame_view (frames.Put m i ren e) = spec.Put m.global.now i ren e

abbrev pub frames_view : List Frame → List spec.Frame
frames_view fs = map frame_view fs

abbrev pub state_view : State → spec.State
state_view s = record { frames = frames_view s.frames; current = s.current; bound = s.bound }
