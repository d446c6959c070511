use Rattle.std.proofs.Common.{◌≡◌, ◌<◌, ◌≤◌, ap, subst, ◌∙◌, arith}
use Rattle.std.proofs.lemmas.Result.{IfOk-equal}
use Rattle.std.specs.Prelude.{IfOk}
use Rattle.pgo_base.specs.ExprView.{tree}
use Rattle.pgo_base.specs.TreeSize.{height}
use Rattle.pgo_meaning.specs.Parameters.{all_mapped}
use Rattle.pgo_operands.proofs.Heights.{highest, operands_low, one_low}
use Rattle.pgo_operands.specs.Operands.{lent_trees}
use Rattle.pgo_rewrite.specs.Scopes.{in_scope}
use Rattle.pgo_rewrite.specs.Views.{read_views}
use Rattle.pgo_rewrite.proofs.Walked.{walked_rest, walked_reads, walked_used}
use Rattle.pgo_rewrite.proofs.walk.+walk.Goals as goal

pub rewrite_parts-rewritten-requires : goal.rewrite_parts-rewritten-requires
rewrite_parts-rewritten-requires g t c κs o =
    let low : height (tree c.index-list-i.result.now) ≤ highest (lent_trees c.args.list.now) = one_low _ _ _ (omega arith) c.index-list-i.is in
    (omega arith, o)

pub rewritten-rewrite_parts-requires : goal.rewritten-rewrite_parts-requires
rewritten-rewrite_parts-requires g t c κs o =
    let low : highest (lent_trees c.as_slice.result.now) < height (tree c.args.e.now) = operands_low _ _ _ c.as_slice.ensures.value c.in_ok-list.ensures in
    (omega arith, o)

pub rewritten-returns-clause-rest : goal.rewritten-returns-clause-rest
rewritten-returns-clause-rest g t c =
    subst (λ x. IfOk c.finished.result (λ r. tree r ≡ x))
    (walked_rest (g.S.Substitution.stands c.args.names.now) (all_mapped c.args.bindings.now) (in_scope c.args.scope.now) _ (tree c.args.e.now) _ c.args.reads.now.used _ _
    c.in_ok-bound.ensures (ap lent_trees c.as_slice.ensures.value ∙ c.in_ok-list.ensures) c.in_ok-parts.ensures.rest c.in_ok-parts.ensures.used)
    c.finished.ensures.rest

pub rewritten-returns-clause-reads : goal.rewritten-returns-clause-reads
rewritten-returns-clause-reads g t c =
    IfOk-equal c.finished.result _ _ _ c.finished.ensures.reads
    (walked_reads (g.S.Substitution.stands c.args.names.now) (all_mapped c.args.bindings.now) (in_scope c.args.scope.now) _ (tree c.args.e.now) _ c.args.reads.now.used _ _ (read_views c.args.reads.now.list.items) _
    c.in_ok-bound.ensures (ap lent_trees c.as_slice.ensures.value ∙ c.in_ok-list.ensures) c.in_ok-parts.ensures.rest c.in_ok-parts.ensures.used c.in_ok-parts.ensures.reads)

pub rewritten-returns-clause-used : goal.rewritten-returns-clause-used
rewritten-returns-clause-used g t c =
    IfOk-equal c.finished.result _ _ _ c.finished.ensures.used
    (walked_used (g.S.Substitution.stands c.args.names.now) (all_mapped c.args.bindings.now) (in_scope c.args.scope.now) _ (tree c.args.e.now) _ c.args.reads.now.used _ _
    c.in_ok-bound.ensures (ap lent_trees c.as_slice.ensures.value ∙ c.in_ok-list.ensures) c.in_ok-parts.ensures.rest c.in_ok-parts.ensures.used)
