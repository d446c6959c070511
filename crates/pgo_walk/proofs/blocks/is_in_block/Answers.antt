use Rattle.std.proofs.Common.{◌≡◌, ◌∙◌, ◌∷◌, ◌+◌, drop, ap, sym}
use Rattle.std.proofs.lemmas.List.{drop_more}
use Rattle.pgo_walk.proofs.BlockAmong.{found_block, passed_frame}
use Rattle.pgo_walk.proofs.blocks.is_in_block.Goals as goal

pub loop-frame-preserved : goal.loop-frame-preserved
loop-frame-preserved c =
    let x = c.frame-item.result in
    let rest = drop (c.loop-frame.frame-index + 1) c.args.frames.now in
    let here : drop c.loop-frame.frame-index c.args.frames.now ≡ x ∷ rest =
    drop_more c.args.frames.now c.loop-frame.frame-index x c.loop-frame-test.true ∙ ap (λ z. z ∷ rest) (sym c.frame-item.is) in
    c.loop-frame.invariant ∙ passed_frame _ rest x here (sym c.if-is_block.ensures)

pub returns-then-is_block : goal.returns-then-is_block
returns-then-is_block c =
    let x = c.frame-item.result in
    let rest = drop (c.loop-frame.frame-index + 1) c.args.frames.now in
    let here : drop c.loop-frame.frame-index c.args.frames.now ≡ x ∷ rest =
    drop_more c.args.frames.now c.loop-frame.frame-index x c.loop-frame-test.true ∙ ap (λ z. z ∷ rest) (sym c.frame-item.is) in
    sym (c.loop-frame.invariant ∙ found_block _ rest x here (sym c.if-is_block.ensures))
