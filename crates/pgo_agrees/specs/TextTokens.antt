-- The tokens of a specification's text.
use Rattle.std.specs.Prelude.{◌≡◌, true, List, [], ◌∷◌}
use Rattle.pgo_model.specs.ValueText.{is_identifier}
use Rattle.pgo_lexer.specs.declared.symbol.Symbol.{Symbol}
use Rattle.pgo_lexer.specs.declared.symbol.Symbol.TheVariants.{Prime, Unchanged}
use Rattle.pgo_lexer.specs.declared.token.Token.{Token}
use Rattle.pgo_lexer.specs.declared.token.Token.TheVariants as t

abbrev pub AllowedSign : Symbol → Type 0
AllowedSign Prime = ⊥
AllowedSign Unchanged = ⊥
AllowedSign _ = Unit {0}

-- names are identifiers, and there is neither `'` nor UNCHANGED
abbrev pub Allowed : Token → Type 0
Allowed (t.Name x) = is_identifier x ≡ true
Allowed (t.Symbol v) = AllowedSign v
Allowed _ = Unit {0}

abbrev pub AllAllowed : List Token → Type 0
AllAllowed [] = Unit {0}
AllAllowed (k ∷ ks) = Allowed k × AllAllowed ks
