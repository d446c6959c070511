use Rattle.std.proofs.Common.{◌≡◌, ◌++◌, ◌∷◌, [], IfOk, subst, ◌∙◌}
use Rattle.pgo_model.specs.ExprText.{names_text}
use Rattle.pgo_module_write.proofs.write.constants.Goals as goal

pub returns : goal.returns
returns c =
    subst (λ ns. IfOk c.listed.result (λ v. v.items ≡ names_text ns))
    (c.as_slice.ensures ∙ c.in_ok-push.ensures ∙ (λ i. c.in_ok-names.ensures i ++ c.in_ok-from_slice.ensures i ∷ []))
    c.listed.ensures
