use Rattle.std.proofs.Common.{sym, ◌∙◌, arith}
use Rattle.pgo_lexer.proofs.Comments.{behind_all}
use Rattle.pgo_lexer.proofs.comment.behind_comment.Goals as goal

pub returns : goal.returns
returns c = sym (behind_all c.loop-depth.depth c.loop-depth.rest.now (omega arith)) ∙ c.loop-depth.invariant.behind
