use Rattle.std.proofs.Common.{◌≡◌, ◌<◌, ◌≤◌, ◌∙◌, map, ap, sym, subst, arith}
use Rattle.std.specs.Prelude.{IfOk}
use Rattle.pgo_syntax.specs.Statement.{labeled, guarded, statements}
use Rattle.pgo_syntax.specs.StatementSize.{height}
use Rattle.pgo_syntax.specs.StatementView.{statement}
use Rattle.pgo_labels.specs.Parts.{see, parts}
use Rattle.pgo_labels.specs.ItemEnds.{all_items_end, items_end}
use Rattle.pgo_labels.specs.YieldRule as spec
use Rattle.pgo_labels.proofs.Ends.{labeled_end, alternatives_end, all_branches_end, row_stops, row_goes}
use Rattle.pgo_labels.proofs.Nesting.{heights, at_height, list_low}
use Rattle.pgo_labels.proofs.yield_rule.+ends.Goals as goal

pub all_parts_end-ends_in_yield-requires : goal.all_parts_end-ends_in_yield-requires
all_parts_end-ends_in_yield-requires t c =
    let at : height (see c.part-item.result).1 ≤ heights (map see c.as_slice-list.result.now) = at_height _ _ _ (omega arith) c.part-item.is in
    let low : heights (map see c.as_slice-list.result.now) < height (statement c.args.s.now) = list_low _ _ _ c.as_slice-list.ensures.value c.in_ok-parts.ensures in
    let same : height (statement c.statement.result.now) ≡ height (see c.part-item.result).1 = ap height c.statement.ensures in
    (omega arith, tt)

pub ends_in_yield-row_ends-requires : goal.ends_in_yield-row_ends-requires
ends_in_yield-row_ends-requires t c =
    let low : heights (map see c.as_slice.result.now) < height (statement c.args.s.now) =
    list_low _ _ _ c.as_slice.ensures.value (c.in_ok-parts-in-Block.ensures ∙ sym (ap (λ s. parts (statement s)) c.in-Block.is)) in
    (omega arith, tt)

pub row_ends-ends_in_yield-requires : goal.row_ends-ends_in_yield-requires
row_ends-ends_in_yield-requires t c =
    let at : height (see c.index-list-i.result).1 ≤ heights (map see c.args.list.now) = at_height _ _ _ (omega arith) c.index-list-i.is in
    let same : height (statement c.statement.result.now) ≡ height (see c.index-list-i.result).1 = ap height c.statement.ensures in
    (omega arith, tt)

pub ends_in_yield-returns-in-IfElse : goal.ends_in_yield-returns-in-IfElse
ends_in_yield-returns-in-IfElse t c =
    subst (λ x. IfOk c.all_parts_end.result (λ b. b ≡ x))
    (ap (λ s. all_items_end (parts (statement s))) c.in-IfElse.is
    ∙ all_branches_end (guarded c.in-IfElse.field-1) c.in-IfElse.field-2
    ∙ sym (ap (λ s. spec.ends_in_yield (statement s)) c.in-IfElse.is))
    c.all_parts_end.ensures

pub ends_in_yield-returns-in-Either : goal.ends_in_yield-returns-in-Either
ends_in_yield-returns-in-Either t c =
    subst (λ x. IfOk c.all_parts_end-in-Either.result (λ b. b ≡ x))
    (ap (λ s. all_items_end (parts (statement s))) c.in-Either.is
    ∙ alternatives_end (statements c.in-Either.field-1)
    ∙ sym (ap (λ s. spec.ends_in_yield (statement s)) c.in-Either.is))
    c.all_parts_end-in-Either.ensures

pub ends_in_yield-returns-in_ok-parts-in-Block : goal.ends_in_yield-returns-in_ok-parts-in-Block
ends_in_yield-returns-in_ok-parts-in-Block t c =
    subst (λ x. IfOk c.row_ends.result (λ b. b ≡ x))
    (ap (λ l. items_end (map see l)) c.as_slice.ensures.value
    ∙ ap items_end c.in_ok-parts-in-Block.ensures
    ∙ labeled_end (labeled c.in-Block.block)
    ∙ sym (ap (λ s. spec.ends_in_yield (statement s)) c.in-Block.is))
    c.row_ends.ensures

pub row_ends-returns-then-branch : goal.row_ends-returns-then-branch
row_ends-returns-then-branch t c =
    row_stops c.args.list.now c.loop-i.i c.index-list-i.result _ _ _ c.index-list-i.is (omega arith) c.statement-in-loop-i.ensures c.in_ok-has_yield.ensures c.if-branch.true c.loop-i.invariant

pub row_ends-loop-i-preserved : goal.row_ends-loop-i-preserved
row_ends-loop-i-preserved t c =
    row_goes c.args.list.now c.loop-i.i c.index-list-i.result _ _ _ c.index-list-i.is (omega arith) c.statement-in-loop-i.ensures c.in_ok-has_yield.ensures c.if-branch.false c.loop-i.invariant
