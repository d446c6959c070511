use Rattle.pgo_expr_write.proofs.ByNames.{several}
use Rattle.pgo_expr_write.proofs.own.is_self.Goals as goal

pub returns-in_default-2 : goal.returns-in_default-2
returns-in_default-2 c = several _ _ c.as_slice.ensures c.in_default.len_at_least
