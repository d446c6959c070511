use Rattle.std.proofs.Common.{◌≡◌, ap, subst, sym, ◌∙◌}
use Rattle.std.specs.Prelude.{[], IfOk}
use Rattle.pgo_effects.specs.Puts.{puts_tree, puts_left}
use Rattle.pgo_put_sizes.specs.Lefts.{steps_nodes}
use Rattle.pgo_sections.specs.Nodes.{tree_nodes}
use Rattle.pgo_sizes.specs.Left.{left_after}
use Rattle.pgo_sizes.proofs.NodesIn.{less_left, both_left}
use Rattle.pgo_put_sizes.proofs.counted.take_assignment.Goals as goal

pub returns-in-None : goal.returns-in-None
returns-in-None c =
    let ls = c.args.layers.now in let a = c.args.a.now in
    sym (less_left c.args.left (steps_nodes [] (puts_left ls a.left).path) (tree_nodes (puts_tree ls a.right)) (sym c.in_ok-before.ensures ∙ c.in-None.is))

pub returns-in-Some : goal.returns-in-Some
returns-in-Some c =
    let ls = c.args.layers.now in let a = c.args.a.now in
    subst (λ x. IfOk c.take_alone.result (λ o. o ≡ x))
    (ap (λ t. left_after c.in-Some.rest (tree_nodes (puts_tree ls t))) c.get.ensures
    ∙ both_left c.args.left (steps_nodes [] (puts_left ls a.left).path) (tree_nodes (puts_tree ls a.right)) c.in-Some.rest (sym c.in_ok-before.ensures ∙ c.in-Some.is))
    c.take_alone.ensures
