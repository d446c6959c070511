-- The laws.
use Rattle.pgo_lexer.proofs.TokensExact.{one_list, one_lexed, one_marked, spans}
use Rattle.pgo_lexer.proofs.tokenizer.one_list_of_tokens.Goals as goal

pub returns : goal.returns
returns c = record { one = one_list; one_lexed = one_lexed; one_marked = one_marked; spans = spans }
