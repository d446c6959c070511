use Rattle.std.proofs.Common.{◌≡◌, List, [], drop, sym, ap, ◌∙◌}
use Rattle.std.proofs.lemmas.List.{take_rest, drop_all}
use Rattle.pgo_base.specs.ExprView.{tree}
use Rattle.pgo_meaning.specs.MacrosPlaced.{Arguments}
use Rattle.pgo_put_sizes.specs.Levels.{level_nodes}
use Rattle.pgo_put_sizes.specs.Under.{puts_under}
use Rattle.pgo_put_sizes.proofs.UnderLaws.{settled, settled_last}
use Rattle.pgo_rewrite.specs.Scopes.{in_scope}
use Rattle.pgo_put_sizes.proofs.layers.resolve.Goals as goal

pub returns-in-None : goal.returns-in-None
returns-in-None c =
    let ls = c.args.layers.now in let under = in_scope c.args.scope.now in let t = tree c.loop-i.e.now in
    ap (λ (l : List Arguments). level_nodes l under t) (take_rest ls c.loop-i.i)
    ∙ settled (drop c.loop-i.i ls) ls under t (tree c.args.e.now) c.loop-i.invariant (sym c.in-None.ensures)

pub returns : goal.returns
returns c =
    let ls = c.args.layers.now in let under = in_scope c.args.scope.now in let t = tree c.loop-i.e.now in
    let none : drop c.loop-i.i ls ≡ [] = drop_all c.loop-i.i ls c.loop-i-test.false in
    settled_last ls under t (tree c.args.e.now) (ap (λ (l : List Arguments). puts_under l under t) (sym none) ∙ c.loop-i.invariant)
