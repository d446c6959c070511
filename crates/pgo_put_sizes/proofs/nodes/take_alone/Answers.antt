use Rattle.std.proofs.Common.{◌≡◌, subst, sym, ◌∙◌}
use Rattle.std.specs.Prelude.{IfOk}
use Rattle.pgo_base.specs.ExprView.{tree}
use Rattle.pgo_put_sizes.specs.Under.{puts_under}
use Rattle.pgo_put_sizes.proofs.UnderLaws.{none_under}
use Rattle.pgo_rewrite.specs.Scopes.{in_scope}
use Rattle.pgo_sections.specs.Nodes.{tree_nodes}
use Rattle.pgo_sizes.specs.Left.{left_after}
use Rattle.pgo_put_sizes.proofs.nodes.take_alone.Goals as goal

pub returns : goal.returns
returns c =
    let ls = c.args.layers.now in let e = tree c.args.e.now in
    subst (λ t. IfOk c.take_put_nodes.result (λ o. o ≡ left_after c.args.left (tree_nodes t)))
    ((λ z. puts_under ls (in_scope (c.new-scope.ensures z)) e) ∙ sym (none_under ls e)) c.take_put_nodes.ensures
