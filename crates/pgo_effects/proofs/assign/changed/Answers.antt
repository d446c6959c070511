use Rattle.std.proofs.Common.{ap, ◌∙◌, map, ◌++◌, ◌∷◌, [], List}
use Rattle.pgo_base.specs.declared.expr.Expr.TheVariants.{Name}
use Rattle.pgo_base.specs.ExprView.{path_tree}
use Rattle.pgo_base.specs.declared.expr.Update.{Update}
use Rattle.pgo_effects.proofs.ChangedLaws.{changed_made}
use Rattle.pgo_effects.proofs.assign.changed.Goals as goal

pub returns : goal.returns
returns c =
    changed_made c.args.x.now c.in_ok-copy.field-0 c.args.w c.args.path.now c.in_ok-function.function c.in_ok-path.path c.from_vec.result c.in_ok-function.ensures c.in_ok-copy.ensures
    (c.from_vec.ensures ∙ ap (λ (l : List Update). map path_tree l) (c.in_ok-push.ensures.items ∙ ap (λ (l : List Update). l ++ record { path = c.in_ok-path.path; value = Name c.args.w } ∷ []) c.new-list.ensures.items)) c.in_ok-path.ensures
