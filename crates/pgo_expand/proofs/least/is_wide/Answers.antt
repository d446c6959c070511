use Rattle.std.proofs.Common.{◌≤◌, ◌+◌, ◌∷◌, ◌∙◌, drop, ap, sym, subst}
use Rattle.std.specs.List.{flat_map}
use Rattle.pgo_meaning.specs.Expansions.{process_expansions, trees_of}
use Rattle.pgo_expand.specs.Limits.{most_nodes, nodes_in}
use Rattle.pgo_expand.proofs.Heights.{drop_at}
use Rattle.pgo_expand.proofs.LeastLaws.{process_more, nothing_left}
use Rattle.pgo_expand.proofs.least.is_wide.Goals as goal

pub returns-then-least-gt1048576 : goal.returns-then-least-gt1048576
returns-then-least-gt1048576 c =
    let s = c.args.spec.now in
    let rest = drop (c.loop-process.process-index + 1) c.as_slice-process-items.result.now in
    λ h. nothing_left most_nodes c.saturating_add-least.result (nodes_in (flat_map (process_expansions s) rest)) (nodes_in (trees_of s)) c.if-least-gt1048576.true
    (process_more s c.process-item.result rest c.loop-process.least c.in_ok-more.more c.saturating_add-least.result (nodes_in (trees_of s))
    (subst (λ l. c.loop-process.least + nodes_in (flat_map (process_expansions s) l) ≤ nodes_in (trees_of s))
    (drop_at c.as_slice-process-items.result.now c.loop-process.process-index c.process-item.result c.loop-process-test.true ∙ ap (λ p. p ∷ rest) (sym c.process-item.is))
    c.loop-process.invariant)
    (subst (λ d. c.in_ok-more.more ≤ nodes_in (process_expansions d c.process-item.result)) c.in_ok-indexed.ensures c.in_ok-more.ensures) c.saturating_add-least.ensures)

pub loop-process-preserved : goal.loop-process-preserved
loop-process-preserved c =
    let s = c.args.spec.now in
    let rest = drop (c.loop-process.process-index + 1) c.as_slice-process-items.result.now in
    process_more s c.process-item.result rest c.loop-process.least c.in_ok-more.more c.saturating_add-least.result (nodes_in (trees_of s))
    (subst (λ l. c.loop-process.least + nodes_in (flat_map (process_expansions s) l) ≤ nodes_in (trees_of s))
    (drop_at c.as_slice-process-items.result.now c.loop-process.process-index c.process-item.result c.loop-process-test.true ∙ ap (λ p. p ∷ rest) (sym c.process-item.is))
    c.loop-process.invariant)
    (subst (λ d. c.in_ok-more.more ≤ nodes_in (process_expansions d c.process-item.result)) c.in_ok-indexed.ensures c.in_ok-more.ensures) c.saturating_add-least.ensures
