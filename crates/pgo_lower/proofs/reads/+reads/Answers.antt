use Rattle.std.proofs.Common.{◌≡◌, ◌<◌, ◌≤◌, ◌∙◌, ◌+◌, add-one, ap, map, arith, drop, rules}
use Rattle.std.proofs.lemmas.Result.{IfOk-equal}
use Rattle.pgo_base.specs.ExprView.{tree}
use Rattle.pgo_base.specs.TreeSize.{height}
use Rattle.pgo_code.specs.See.{unmapped_view}
use Rattle.pgo_operands.proofs.Heights.{highest, operands_low, one_low}
use Rattle.pgo_operands.specs.Operands.{lent_trees}
use Rattle.pgo_rewrite.specs.Scopes.{in_scope}
use Rattle.pgo_rewrite.specs.Scoped.{under_at}
use Rattle.pgo_lower.specs.Slots.{slot_views}
use Rattle.pgo_lower.proofs.GatheredLaws.{all_gathered, part_step}
use Rattle.pgo_lower.proofs.Behind.{drop_step}
use Rattle.pgo_lower.proofs.reads.+reads.Goals as goal

pub note_parts-note_all-requires : goal.note_parts-note_all-requires
note_parts-note_all-requires t c =
    let low : height (tree c.index-list-i.result.now) ≤ highest (lent_trees c.args.list.now) = one_low _ _ _ (omega arith) c.index-list-i.is in
    (omega arith, tt)

pub note_all-note_parts-requires : goal.note_all-note_parts-requires
note_all-note_parts-requires t c =
    let low : highest (lent_trees c.as_slice.result.now) < height (tree c.args.e.now) = operands_low _ _ _ c.as_slice.ensures.value c.in_ok-list.ensures in
    (omega arith, tt)

pub note_all-returns : goal.note_all-returns
note_all-returns t c =
    IfOk-equal c.note_parts.result _ _ _ c.note_parts.ensures
    (all_gathered (slot_views c.args.slots.now) _ _ (in_scope c.args.scope.now) _ (tree c.args.e.now) _
    c.in_ok-note_own.ensures c.in_ok-bound.ensures (ap lent_trees c.as_slice.ensures.value ∙ c.in_ok-list.ensures))

pub note_parts-loop-i-preserved : goal.note_parts-loop-i-preserved
note_parts-loop-i-preserved t c =
    let i = c.loop-i.i in
    let around = under_at (tree c.args.e.now) c.args.bound.now (in_scope c.args.scope.now) in
    let w : in_scope c.within-inner.result ≡ around i = search rules in
    part_step (slot_views c.args.slots.now) (map unmapped_view c.loop-i.reads.items) (map unmapped_view c.note_all.new.reads.items) around (in_scope c.within-inner.result) i (i + 1)
    (tree c.index-list-i.result.now) (lent_trees (drop i c.args.list.now)) (lent_trees (drop (i + 1) c.args.list.now))
    c.in_ok-note_all.ensures w (add-one i) (ap lent_trees (drop_step c.args.list.now i c.index-list-i.result (omega arith) c.index-list-i.is))
    ∙ c.loop-i.invariant
