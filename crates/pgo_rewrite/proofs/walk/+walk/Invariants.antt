-- What is made and what is left are the whole, and each call is about less high expressions.
use Rattle.std.proofs.Common.{◌≡◌, ◌++◌, ◌+◌, ◌*◌, map, drop}
use Rattle.pgo_base.specs.ExprView.{tree}
use Rattle.pgo_base.specs.TreeSize.{height}
use Rattle.pgo_meaning.specs.Parameters.{all_mapped}
use Rattle.pgo_operands.proofs.Heights.{highest}
use Rattle.pgo_operands.specs.Operands.{lent_trees}
use Rattle.pgo_rewrite.specs.Parts as spec
use Rattle.pgo_rewrite.specs.Scoped.{under_at}
use Rattle.pgo_rewrite.specs.Scopes.{in_scope}
use Rattle.pgo_rewrite.specs.Views.{read_views}
use Rattle.pgo_rewrite.proofs.walk.+walk.Given as goal

abbrev pub invariant-rewrite_parts-loop-i : goal.invariant-rewrite_parts-loop-i
invariant-rewrite_parts-loop-i g l =
    let around = under_at (tree l.e) l.bound (in_scope l.scope) in
    let left = spec.parts (g.S.Substitution.stands l.names) (all_mapped l.bindings) around l.i (lent_trees (drop l.i l.list)) l.reads.used in
    let whole = spec.parts (g.S.Substitution.stands l.names) (all_mapped l.bindings) around 0 (lent_trees l.list) l.initial.reads.used in
    (map tree l.all.items ++ left.rest ≡ whole.rest)
    × (read_views l.reads.list.items ++ left.reads ≡ read_views l.initial.reads.list.items ++ whole.reads)
    × (left.used ≡ whole.used)

abbrev pub decreases-rewritten : goal.decreases-rewritten
decreases-rewritten g l = 2 * height (tree l.e.now)

abbrev pub decreases-rewrite_parts : goal.decreases-rewrite_parts
decreases-rewrite_parts g l = 2 * highest (lent_trees l.list.now) + 1
