use Rattle.std.proofs.Common.{◌≡◌, ap, subst, ◌∙◌}
use Rattle.std.specs.Prelude.{IfOk}
use Rattle.pgo_base.specs.ExprView.{tree}
use Rattle.pgo_operands.specs.Operands.{lent_trees}
use Rattle.pgo_put_sizes.specs.Levels.{operands_under, parts_under}
use Rattle.pgo_put_sizes.specs.Under.{puts_under}
use Rattle.pgo_put_sizes.proofs.Taken.{nothing_left, some_left}
use Rattle.pgo_rewrite.specs.Scoped.{under_at}
use Rattle.pgo_rewrite.specs.Scopes.{in_scope}
use Rattle.pgo_sections.specs.Nodes.{tree_nodes}
use Rattle.pgo_sizes.specs.Left.{left_after}
use Rattle.pgo_sizes.specs.Sums.{nodes_in}
use Rattle.pgo_sizes.specs.Tuples.{own_nodes}
use Rattle.pgo_put_sizes.proofs.nodes.+nodes.Goals as goal

pub take_put_nodes-returns-in-None : goal.take_put_nodes-returns-in-None
take_put_nodes-returns-in-None t c =
    let under = in_scope c.args.scope.now in let e = tree c.resolve-level.result.e.now in
    nothing_left c.args.left c.own_nodes.result (nodes_in (operands_under c.resolve-level.result.layers.now under e)) (own_nodes e)
    (tree_nodes (puts_under c.args.layers.now under (tree c.args.e.now))) c.take.result c.own_nodes.ensures c.take.ensures c.in-None.is c.resolve-level.ensures

pub take_put_nodes-returns-in-Some : goal.take_put_nodes-returns-in-Some
take_put_nodes-returns-in-Some t c =
    let under = in_scope c.args.scope.now in let e = tree c.resolve-level.result.e.now in
    subst (λ x. IfOk c.take_operands.result (λ o. o ≡ x))
    (some_left c.args.left c.own_nodes.result (nodes_in (operands_under c.resolve-level.result.layers.now under e)) (own_nodes e) c.in-Some.rest
    (tree_nodes (puts_under c.args.layers.now under (tree c.args.e.now))) c.take.result c.own_nodes.ensures c.take.ensures c.in-Some.is c.resolve-level.ensures)
    c.take_operands.ensures

pub take_operands-returns : goal.take_operands-returns
take_operands-returns t c =
    let under = in_scope c.args.scope.now in let e = tree c.args.e.now in
    subst (λ x. IfOk c.take_each.result (λ o. o ≡ x))
    (λ z. left_after c.args.left (nodes_in (parts_under c.args.layers.now (under_at e (c.in_ok-bound.ensures z) under) 0 ((ap lent_trees c.as_slice.ensures.value ∙ c.in_ok-list.ensures) z))))
    c.take_each.ensures
