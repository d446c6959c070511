use Rattle.std.proofs.Common.{◌≡◌, drop}
use Rattle.pgo_expr_read.specs.Lookahead.{has_mapped, tokens_of}
use Rattle.pgo_module_read.proofs.lines.mapped.Given as goal

abbrev pub invariant-loop-lexeme : goal.invariant-loop-lexeme
invariant-loop-lexeme l = has_mapped (tokens_of l.tokens) ≡ has_mapped (tokens_of (drop l.lexeme-index l.tokens))
