use Rattle.std.proofs.lemmas.Result.{IfOk-equal}
use Rattle.pgo_expr_write.proofs.Nesting.{added}
use Rattle.pgo_expr_write.proofs.forms.add_unchanged.Goals as goal

pub returns : goal.returns
returns c = IfOk-equal c.add-2.result _ _ _ c.add-2.ensures (added _ _ _ _ _ _ c.in_ok-add.ensures c.in_ok-add_names.ensures)
