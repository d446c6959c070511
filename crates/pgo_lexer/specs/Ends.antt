-- How what is open at an offset is closed there, and what a refusal of a token leaves.
use Rattle.std.specs.Prelude.{◌≡◌, ℕ, List, [], ◌∷◌, ◌++◌}
use Rattle.pgo_lexer.specs.declared.symbol.Bracket.{Bracket}
use Rattle.pgo_lexer.specs.declared.symbol.Symbol.TheVariants as s
use Rattle.pgo_lexer.specs.declared.token.Token.TheVariants as t
use Rattle.pgo_lexer.specs.declared.token.Lexeme.{Lexeme}
use Rattle.pgo_lexer.specs.declared.stack.Frame.{Frame}
use Rattle.pgo_lexer.specs.declared.stack.Frame.TheVariants as f
use Rattle.pgo_lexer.specs.declared.marker.Marker.{Marker}
use Rattle.pgo_lexer.specs.declared.errors.TextStop.{TextStop}
use Rattle.pgo_lexer.specs.Answers.{IsSyntax}
use Rattle.pgo_lexer.specs.Offsets.{IsAt}
use Rattle.pgo_lexer.specs.Layout.{list_close}

-- a bracket's end at an offset, to the right of all
abbrev pub end_of : (offset : ℕ) → Bracket → Lexeme
end_of offset k = record { token = t.Symbol (s.Close k); column = 18446744073709551615; start = offset; stop = offset }

abbrev pub frame_end : (offset : ℕ) → Frame → Lexeme
frame_end offset (f.Bracket k b) = end_of offset k
frame_end offset (f.List op c) = list_close

-- the ends of what is open, the innermost first
abbrev pub ends : (offset : ℕ) → List Frame → List Lexeme
ends offset [] = []
ends offset (f ∷ fs) = frame_end offset f ∷ ends offset fs

-- the tokens and marks so far, with what is open closed at an offset
abbrev pub ended : (offset : ℕ) → Marker → List Lexeme
ended offset m = m.out ++ ends offset m.frames

-- a token that begins at this place is refused there, and what is open is closed as before; or memory ran out
abbrev pub IsRefusal : (place : ℕ) (old new : Marker) → TextStop → Type 0
IsRefusal place old new stop = IsAt place stop × (IsSyntax stop → (at : ℕ) → ended at new ≡ ended at old)
