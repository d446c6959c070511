use Rattle.pgo_expr_read.proofs.Ranges.{range_front, range_whole}
use Rattle.pgo_expr_read.proofs.reader.range_is_exact.Goals as goal

pub returns-clause-front : goal.returns-clause-front
returns-clause-front c = range_front

pub returns-clause-whole : goal.returns-clause-whole
returns-clause-whole c = range_whole
