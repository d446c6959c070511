use Rattle.std.proofs.Common.{◌≡◌, ◌<◌, ◌∷◌, List, sym, subst}
use Rattle.std.specs.Prelude.{reverse}
use Rattle.std.proofs.lemmas.Result.{IfOk-weaker}
use Rattle.pgo_sections.specs.Nodes.{nodes}
use Rattle.pgo_walk.specs.FrameView.{frames_view}
use Rattle.pgo_walk.specs.Frames.{goes}
use Rattle.pgo_walk.specs.declared.frames.Frame.{Frame}
use Rattle.pgo_measure.proofs.WideLaws.{newest}
use Rattle.pgo_measure.proofs.wide.is_too_wide.Goals as goal

pub returns-in-Some : goal.returns-in-Some
returns-in-Some c =
    let s = c.args.state.now in
    let behind = reverse c.in-Some.field-0-1.now in
    let first : s.frames ≡ c.in-Some.frame.now ∷ behind =
    newest c.as_slice.result.now c.in-Some.field-0-1.now s.frames c.in-Some.frame.now c.as_slice.ensures c.in-Some.ensures.cases.0 in
    IfOk-weaker c.is_frame_wide.result _ _
    (λ b h e vs.
    subst (λ (fs : List Frame). c.args.left < nodes (goes vs (frames_view fs) s.current s.bound)) (sym first) (h e vs (frames_view behind) s.current s.bound))
    c.is_frame_wide.ensures
