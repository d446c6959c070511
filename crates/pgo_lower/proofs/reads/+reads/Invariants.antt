-- What is gathered and what is left are the whole, and each call is about less high expressions.
use Rattle.std.proofs.Common.{◌≡◌, ◌+◌, ◌*◌, drop, map}
use Rattle.pgo_base.specs.ExprView.{tree}
use Rattle.pgo_base.specs.TreeSize.{height}
use Rattle.pgo_code.specs.See.{unmapped_view}
use Rattle.pgo_operands.proofs.Heights.{highest}
use Rattle.pgo_operands.specs.Operands.{lent_trees}
use Rattle.pgo_rewrite.specs.Scoped.{under_at}
use Rattle.pgo_rewrite.specs.Scopes.{in_scope}
use Rattle.pgo_lower.specs.Gathered.{gathered, part_names}
use Rattle.pgo_lower.specs.Slots.{slot_views}
use Rattle.pgo_lower.proofs.reads.+reads.Given as goal

abbrev pub invariant-note_parts-loop-i : goal.invariant-note_parts-loop-i
invariant-note_parts-loop-i l =
    let around = under_at (tree l.e) l.bound (in_scope l.scope) in
    gathered (slot_views l.slots) (map unmapped_view l.reads.items) (part_names around l.i (lent_trees (drop l.i l.list)))
    ≡ gathered (slot_views l.slots) (map unmapped_view l.initial.reads.items) (part_names around 0 (lent_trees l.list))

abbrev pub decreases-note_all : goal.decreases-note_all
decreases-note_all l = 2 * height (tree l.e.now)

abbrev pub decreases-note_parts : goal.decreases-note_parts
decreases-note_parts l = 2 * highest (lent_trees l.list.now) + 1
