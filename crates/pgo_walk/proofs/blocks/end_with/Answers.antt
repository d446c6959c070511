use Rattle.std.proofs.Common.{◌∙◌, List, sym}
use Rattle.std.proofs.lemmas.Result.{IfOk-weaker}
use Rattle.pgo_base.specs.Lookup.{Name}
use Rattle.pgo_walk.proofs.BlockAmong.{no_yields, found_block_in}
use Rattle.pgo_walk.specs.FrameView.{frames_view, frame_view}
use Rattle.pgo_walk.proofs.blocks.end_with.Goals as goal

pub returns-in-None : goal.returns-in-None
returns-in-None c = λ vs. no_yields vs (frames_view c.args.state.now.frames) c.args.e c.args.state.now.current c.args.state.now.bound c.in-None.ensures ∙ sym (c.nowhere.ensures vs _)

pub returns-in-Some : goal.returns-in-Some
returns-in-Some c =
    let found = λ (vs : List Name).
    found_block_in vs (frames_view c.args.state.now.frames) (frame_view c.in-Some.block) (frames_view c.leave_block.new.frames) c.in-Some.ensures in
    IfOk-weaker c.end_block.result _ _
    (λ t h vs. (found vs).same c.args.e c.args.state.now.current c.args.state.now.bound ∙ h vs (found vs).block)
    c.end_block.ensures
