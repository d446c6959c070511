use Rattle.pgo_expr_read.proofs.Exact.{one_text}
use Rattle.pgo_expr_read.proofs.reader.one_expr.Goals as goal

pub returns : goal.returns
returns c = one_text c.one_list_of_tokens.ensures.one
