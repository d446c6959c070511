-- Where a text is refused.
use Rattle.std.specs.Prelude.{◌≡◌, ◌≤◌, ℕ, nat_lt, if◌then◌else◌, List, [], ◌∷◌}
use Rattle.pgo_lexer.specs.declared.errors.TextStop.{TextStop}
use Rattle.pgo_lexer.specs.declared.errors.TextStop.TheVariants.{Syntax, NoMemory}
use Rattle.pgo_lexer.specs.declared.token.Lexeme.{Lexeme}

-- the text is refused at this offset, or memory ran out
abbrev pub IsAt : (place : ℕ) → TextStop → Type 0
IsAt place (Syntax offset) = offset ≡ place
IsAt place NoMemory = Unit {0}

-- the offset of a refusal is at most the length of the text
abbrev pub IsWithin : (length : ℕ) → TextStop → Type 0
IsWithin length (Syntax offset) = offset ≤ length
IsWithin length NoMemory = Unit {0}

-- the offset of the first of these tokens that has a place, or the end
abbrev pub first_offset : List Lexeme → (end : ℕ) → ℕ
first_offset [] end = end
first_offset (l ∷ ls) end = if nat_lt l.start l.stop then l.start else first_offset ls end
