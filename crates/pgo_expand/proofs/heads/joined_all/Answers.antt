use Rattle.std.proofs.Common.{◌∙◌, ◌+◌, drop, Some, ap, sym, get_or}
use Rattle.pgo_measure.specs.Heights.{capped}
use Rattle.pgo_expand.specs.Module.{joined_behind}
use Rattle.pgo_expand.proofs.Heights.{joined_next, drop_at}
use Rattle.pgo_expand.proofs.heads.joined_all.Goals as goal

pub loop-height-preserved : goal.loop-height-preserved
loop-height-preserved c =
    let x = get_or c.args.heights.now c.loop-height.height-index 0 in
    let rest = drop (c.loop-height.height-index + 1) c.args.heights.now in
    c.loop-height.invariant
    ∙ ap (λ hs. capped (joined_behind c.loop-height.so_far hs)) (drop_at c.args.heights.now c.loop-height.height-index 0 c.loop-height-test.true)
    ∙ joined_next c.loop-height.so_far x rest
    ∙ ap (λ j. capped (joined_behind (Some j) rest)) (sym c.joined.ensures)
