-- As many tokens as lexemes.
use Rattle.std.proofs.Common.{◌≡◌, suc, List, [], ◌∷◌, length, refl, ap, sym}
use Rattle.pgo_lexer.specs.declared.token.Lexeme.{Lexeme}
use Rattle.pgo_expr_read.specs.Lookahead.{tokens_of}

length_tokens : (ls : List Lexeme) → length (tokens_of ls) ≡ length ls
length_tokens [] = refl
length_tokens (l ∷ ls) = ap suc (length_tokens ls)

pub tokens_length : (ls : List Lexeme) → length ls ≡ length (tokens_of ls)
tokens_length ls = sym (length_tokens ls)
