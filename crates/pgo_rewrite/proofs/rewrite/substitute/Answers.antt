use Rattle.std.proofs.Common.{◌≡◌, subst}
use Rattle.std.specs.Prelude.{IfOk}
use Rattle.pgo_base.specs.ExprView.{tree}
use Rattle.pgo_rewrite.proofs.RewrittenLaws.{put_in}
use Rattle.pgo_rewrite.proofs.rewrite.substitute.Goals as goal

pub returns : goal.returns
returns g c =
    subst (λ x. IfOk c.rewritten.result (λ r. tree r ≡ x))
    (put_in (g.S.Substitution.stands c.args.names.now) _ (tree c.args.e.now) 0 _ c.new-scope.ensures c.none-bindings.ensures)
    c.rewritten.ensures.rest
