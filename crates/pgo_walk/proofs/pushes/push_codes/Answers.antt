use Rattle.std.proofs.Common.{◌∙◌, ◌∷◌, ap}
use Rattle.pgo_effects.specs.SettingView.{setting_view}
use Rattle.pgo_effects.specs.Todos.{code_of}
use Rattle.pgo_walk.specs.FrameView.{frames_view}
use Rattle.pgo_walk.specs.Frames.{Run}
use Rattle.pgo_walk.specs.SettingPlaces.{places_in}
use Rattle.pgo_walk.proofs.Runs.{run_last}
use Rattle.pgo_walk.proofs.pushes.push_codes.Goals as goal

pub loop-i-preserved : goal.loop-i-preserved
loop-i-preserved c =
    c.loop-i.invariant
    ∙ run_last (code_of (setting_view c.args.setting)) (places_in c.args.setting) c.args.renames.now c.args.todos.now c.loop-i.i c.index-todos-todos.result
    (frames_view c.loop-i.frames) (frames_view c.push_code.new.frames) c.loop-i-test.true
    (c.in_ok-push_code.ensures
    ∙ ap (λ t. Run (places_in c.args.setting) (code_of (setting_view c.args.setting) t) c.args.renames.now ∷ frames_view c.loop-i.frames) c.index-todos-todos.is)
