use Rattle.std.proofs.Common.{◌∙◌, ap, sym}
use Rattle.pgo_effects.specs.SettingView.{setting_view}
use Rattle.pgo_effects.specs.Todos.{codes_of}
use Rattle.pgo_walk.specs.FrameView.{frames_view}
use Rattle.pgo_walk.specs.Frames.{goes}
use Rattle.pgo_walk.specs.SettingPlaces.{places_in}
use Rattle.pgo_walk.proofs.Turns.{goes_in_turn}
use Rattle.pgo_walk.proofs.last.row_turn.Goals as goal

pub returns : goal.returns
returns c = λ vs.
    goes_in_turn vs (places_in c.args.setting) c.args.renames.now (frames_view c.args.state.now.frames) (codes_of (setting_view c.args.setting) c.args.todos.now)
    c.args.state.now.current c.args.state.now.bound
    ∙ ap (λ fs. goes vs fs c.args.state.now.current c.args.state.now.bound) (sym c.in_ok-push_codes.ensures)
