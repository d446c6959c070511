use Rattle.std.proofs.lemmas.Result.{IfOk-weaker}
use Rattle.pgo_walk.specs.FrameView.{code_left}
use Rattle.pgo_walk.specs.SettingPlaces.{places_in}
use Rattle.pgo_measure.proofs.WideLaws.{run_law}
use Rattle.pgo_measure.proofs.wide.is_frame_wide.Goals as goal

pub returns-in-Run : goal.returns-in-Run
returns-in-Run c =
    IfOk-weaker c.is_run_wide.result _ _
    (λ b h e vs fs cur n.
    rw c.in-Run.is (run_law c.args.left vs (places_in c.in-Run.run'.setting) (code_left c.in-Run.run') c.in-Run.run'.renames fs cur n (h e)))
    c.is_run_wide.ensures
