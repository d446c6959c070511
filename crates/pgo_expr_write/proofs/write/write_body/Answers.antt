use Rattle.std.proofs.Common.{true}
use Rattle.pgo_base.specs.ExprView.{tree}
use Rattle.pgo_model.specs.ExprText.{expr_text}
use Rattle.pgo_expr_write.proofs.ReadBack.{answer_back}
use Rattle.pgo_expr_write.proofs.write.write_body.Goals as goal

pub returns-clause-read : goal.returns-clause-read
returns-clause-read c = answer_back (expr_text true) c.canonical_text_is_read_back.ensures.body c.body_text.result (tree c.args.e.now) c.body_text.ensures
