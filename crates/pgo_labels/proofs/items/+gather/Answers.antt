use Rattle.std.proofs.Common.{◌≡◌, ◌<◌, ◌≤◌, ◌++◌, map, ap, arith}
use Rattle.pgo_syntax.specs.StatementSize.{height}
use Rattle.pgo_syntax.specs.StatementView.{statement}
use Rattle.pgo_labels.specs.Parts.{see}
use Rattle.pgo_labels.proofs.Nesting.{heights, at_height, list_low, list_inside}
use Rattle.pgo_labels.proofs.items.+gather.Goals as goal

pub loop-part-init : goal.loop-part-init
loop-part-init t c = ap (λ r. map see c.args.items.now.items ++ r) (list_inside _ _ _ c.as_slice-list.ensures.value c.in_ok-parts.ensures)

pub gather-requires : goal.gather-requires
gather-requires t c =
    let at : height (see c.part-item.result).1 ≤ heights (map see c.as_slice-list.result.now) = at_height _ _ _ (omega arith) c.part-item.is in
    let low : heights (map see c.as_slice-list.result.now) < height (statement c.args.s.now) = list_low _ _ _ c.as_slice-list.ensures.value c.in_ok-parts.ensures in
    let same : height (statement c.statement.result.now) ≡ height (see c.part-item.result).1 = ap height c.statement.ensures in
    (omega arith, tt)
