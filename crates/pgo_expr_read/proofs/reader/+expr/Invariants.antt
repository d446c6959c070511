use Rattle.pgo_expr_read.proofs.reader.+expr.Given as goal

abbrev pub decreases-expr : goal.decreases-expr
decreases-expr l = l.limit
