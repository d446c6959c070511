use Rattle.pgo_expr_read.proofs.Exact.{front, read_whole}
use Rattle.pgo_expr_read.proofs.reader.expr_is_exact.Goals as goal

pub returns-clause-front : goal.returns-clause-front
returns-clause-front c = front

pub returns-clause-whole : goal.returns-clause-whole
returns-clause-whole c = read_whole
