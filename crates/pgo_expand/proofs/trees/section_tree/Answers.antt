use Rattle.std.proofs.Common.{◌∙◌}
use Rattle.std.proofs.lemmas.Result.{IfOk-weaker}
use Rattle.pgo_expand.proofs.trees.section_tree.Goals as goal

pub returns-clause-tree : goal.returns-clause-tree
returns-clause-tree c =
    IfOk-weaker c.both.result _ _ (λ p h. (rw h at c.make-part.ensures) ∙ c.in_ok-state.ensures c.args.variables.now) c.both.ensures.second
