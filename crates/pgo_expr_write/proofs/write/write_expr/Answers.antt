use Rattle.std.proofs.Common.{false}
use Rattle.pgo_base.specs.ExprView.{tree}
use Rattle.pgo_model.specs.ExprText.{expr_text}
use Rattle.pgo_expr_write.proofs.ReadBack.{answer_back}
use Rattle.pgo_expr_write.proofs.write.write_expr.Goals as goal

pub returns-clause-read : goal.returns-clause-read
returns-clause-read c = answer_back (expr_text false) c.canonical_text_is_read_back.ensures.operand c.operand_text.result (tree c.args.e.now) c.operand_text.ensures
