use Rattle.pgo_spec_text.proofs.Bodies.{comment_within}
use Rattle.pgo_spec_text.proofs.search.behind.Goals as goal

pub returns-then-opens-clause-within : goal.returns-then-opens-clause-within
returns-then-opens-clause-within c = comment_within c.behind_comment.result c.args.bytes.now c.skip.result.now c.behind_comment.ensures c.skip.ensures.value (c.opens.ensures.two c.if-opens.true)
