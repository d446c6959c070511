use Rattle.pgo_lexer.proofs.PrefixMarks.{before_by}
use Rattle.pgo_lexer.proofs.before.tokens_before.Goals as goal

pub returns-clause-tokens : goal.returns-clause-tokens
returns-clause-tokens c =
    before_by c.args.text.now c.args.fault c.in_ok-tokens.tokens c.marked_before.result c.in_ok-tokens.ensures.tokens (c.marked_before.ensures.marked c.in_ok-tokens.ensures.counted)
