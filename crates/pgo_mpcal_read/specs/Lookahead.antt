-- What the next tokens say of a statement's form.
use Rattle.std.specs.Prelude.{if◌then◌else◌, List, [], ◌∷◌}
use Rattle.pgo_lexer.specs.declared.symbol.Bracket.TheVariants as bracket
use Rattle.pgo_lexer.specs.declared.symbol.Symbol.{Symbol}
use Rattle.pgo_lexer.specs.declared.symbol.Symbol.TheVariants as symbol
use Rattle.pgo_lexer.specs.declared.token.Lexeme.{Lexeme}
use Rattle.pgo_lexer.specs.declared.token.Token.{Token}
use Rattle.pgo_lexer.specs.declared.token.Token.TheVariants as t
use Rattle.pgo_mpcal_read.specs.declared.lookahead.StatementForm.{StatementForm}
use Rattle.pgo_mpcal_read.specs.declared.lookahead.StatementForm.TheVariants as statement_form
use Rattle.pgo_mpcal_read.specs.Signs.{sees}

abbrev pub form_of_symbol : Symbol → StatementForm
form_of_symbol symbol.Variable = statement_form.Assign
form_of_symbol (symbol.Open bracket.Curly) = statement_form.Block
form_of_symbol (symbol.Keyword k) = statement_form.Keyword k
form_of_symbol _ = statement_form.None

-- a name begins a macro's call where a `(` is next
abbrev pub form_of_token : Token → List Lexeme → StatementForm
form_of_token (t.Name x) rest = if sees (symbol.Open bracket.Round) rest then statement_form.Call else statement_form.Assign
form_of_token (t.Symbol s) rest = form_of_symbol s
form_of_token _ rest = statement_form.None

abbrev pub form_of : List Lexeme → StatementForm
form_of [] = statement_form.None
form_of (l ∷ rest) = form_of_token l.token rest
