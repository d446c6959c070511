use Rattle.std.proofs.Common.{◌≡◌, ◌<◌, ◌≤◌, ap, subst, ◌∙◌, arith}
use Rattle.std.specs.Prelude.{IfOk}
use Rattle.pgo_base.specs.ExprView.{tree}
use Rattle.pgo_base.specs.TreeSize.{height}
use Rattle.pgo_operands.proofs.Heights.{highest, operands_low, one_low}
use Rattle.pgo_operands.specs.Operands.{lent_trees}
use Rattle.pgo_sizes.proofs.NodesIn.{none_of, some_of}
use Rattle.pgo_sizes.proofs.nodes.+nodes.Goals as goal

pub take_each-take_nodes-requires : goal.take_each-take_nodes-requires
take_each-take_nodes-requires t c =
    let low : height (tree c.one-item.result.now) ≤ highest (lent_trees c.args.list.now) = one_low _ _ _ (omega arith) c.one-item.is in
    (omega arith, tt)

pub take_nodes-take_each-requires : goal.take_nodes-take_each-requires
take_nodes-take_each-requires t c =
    let low : highest (lent_trees c.as_slice.result.now) < height (tree c.args.e.now) = operands_low _ _ _ c.as_slice.ensures.value c.in_ok-parts-in-Some.ensures in
    (omega arith, tt)

pub take_nodes-returns-in-None : goal.take_nodes-returns-in-None
take_nodes-returns-in-None t c = none_of c.args.left c.own_nodes.result (tree c.args.e.now) c.take.result c.own_nodes.ensures c.take.ensures c.in-None.is

pub take_nodes-returns-in_ok-parts-in-Some : goal.take_nodes-returns-in_ok-parts-in-Some
take_nodes-returns-in_ok-parts-in-Some t c =
    subst (λ x. IfOk c.take_each.result (λ o. o ≡ x))
    (some_of c.args.left c.own_nodes.result c.in-Some.rest (tree c.args.e.now) c.take.result (lent_trees c.as_slice.result.now) c.own_nodes.ensures c.take.ensures c.in-Some.is
    (ap lent_trees c.as_slice.ensures.value ∙ c.in_ok-parts-in-Some.ensures))
    c.take_each.ensures
