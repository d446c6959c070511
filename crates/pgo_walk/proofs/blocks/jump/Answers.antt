use Rattle.std.proofs.Common.{◌≡◌, ◌∙◌, true, false, ap, sym}
use Rattle.pgo_walk.proofs.BlockAmong.{jump_in_block, jump_ends}
use Rattle.pgo_walk.specs.FrameView.{frames_view}
use Rattle.pgo_walk.specs.Frames.{has_block}
use Rattle.pgo_sections.specs.Expansion.{End}
use Rattle.pgo_walk.proofs.blocks.jump.Goals as goal

pub returns-then-is_in_block : goal.returns-then-is_in_block
returns-then-is_in_block c =
    let inside : has_block (frames_view c.args.state.now.frames) ≡ true =
    ap (λ fs. has_block (frames_view fs)) (sym c.as_slice.ensures) ∙ sym c.if-is_in_block.ensures in
    λ x. jump_in_block c.args.variables.now (frames_view c.args.state.now.frames) c.args.label.now c.args.state.now.current c.args.state.now.bound inside
    ∙ sym (c.nowhere.ensures c.args.variables.now x)

pub returns : goal.returns
returns c =
    let outside : has_block (frames_view c.args.state.now.frames) ≡ false =
    ap (λ fs. has_block (frames_view fs)) (sym c.as_slice.ensures) ∙ sym c.if-is_in_block.ensures in
    λ x. jump_ends c.args.variables.now (frames_view c.args.state.now.frames) c.args.label.now c.args.state.now.current c.args.state.now.bound outside
    ∙ (λ i. End (sym c.in_ok-changes.ensures i) (sym c.in_ok-copy.ensures i))
