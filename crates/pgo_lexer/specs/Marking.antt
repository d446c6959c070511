-- The marks of junction lists as a function on lists, one token after another, in the shape of the code.
use Rattle.std.specs.Prelude.{ℕ, ◌+◌, Bool, true, false, ◌&&◌, if◌then◌else◌, nat_lt, nat_eq, List, [], ◌∷◌, ◌++◌, length, Option, Some, None}
use Rattle.pgo_lexer.specs.declared.symbol.Bracket.{Bracket}
use Rattle.pgo_lexer.specs.declared.token.Token.TheVariants as t
use Rattle.pgo_lexer.specs.declared.token.Lexeme.{Lexeme}
use Rattle.pgo_lexer.specs.declared.kind.Role.{Role}
use Rattle.pgo_lexer.specs.declared.kind.Role.TheVariants as role
use Rattle.pgo_lexer.specs.declared.stack.Frame.{Frame}
use Rattle.pgo_lexer.specs.declared.stack.Frame.TheVariants as f
use Rattle.pgo_lexer.specs.declared.marker.Marker.{Marker}
use Rattle.pgo_lexer.specs.Kinds.{kind_of, role_of, is_same_bracket, is_junction, ends_operand}
use Rattle.pgo_lexer.specs.Layout.{mark_at, list_close}
use Rattle.pgo_lexer.specs.Lexing.{and_then, lexed}

abbrev pub at : List Lexeme → List Frame → Bool → Marker
at out fs p = record { out = out; frames = fs; after_operand = p }

abbrev pub start : Marker
start = at [] [] false

-- the least column of a token here
abbrev pub bound : List Frame → ℕ
bound [] = 0
bound (f.Bracket k b ∷ fs) = b
bound (f.List op c ∷ fs) = c + 1

-- what is left open, the marks, and whether the token is the next bullet
pub record Settled : Type 0 where
  pub frames : List Frame
  pub marks : List Lexeme
  pub is_next : Bool

abbrev pub stays : List Frame → Settled
stays fs = record { frames = fs; marks = []; is_next = false }

abbrev pub closing : Settled → Settled
closing s = record { frames = s.frames; marks = list_close ∷ s.marks; is_next = s.is_next }

abbrev pub next_item : List Frame → Lexeme → Settled
next_item fs r = record { frames = fs; marks = mark_at t.ListNext r ∷ []; is_next = true }

-- lists that end before a token in its column
abbrev pub settle : Lexeme → List Frame → Settled
settle r [] = stays []
settle r (f.Bracket k b ∷ fs) = stays (f.Bracket k b ∷ fs)
settle r (f.List op c ∷ fs) =
    if nat_lt c r.column then stays (f.List op c ∷ fs)
    else if nat_eq c r.column && is_junction op (kind_of r.token) then next_item (f.List op c ∷ fs) r
    else closing (settle r fs)

-- lists that end before the end of a bracket, or before a `;`
abbrev pub unlisted : List Frame → Settled
unlisted [] = stays []
unlisted (f.Bracket k b ∷ fs) = stays (f.Bracket k b ∷ fs)
unlisted (f.List op c ∷ fs) = closing (unlisted fs)

abbrev pub close_by : Bracket → Lexeme → List Lexeme → List Frame → Option Marker
close_by k r out (f.Bracket l b ∷ fs) = if is_same_bracket k l then Some (at (out ++ r ∷ []) fs true) else None
close_by k r out (f.List op c ∷ fs) = None
close_by k r out [] = None

abbrev pub placed : Role → Lexeme → List Lexeme → List Frame → Option Marker
placed (role.Open k) r out fs = Some (at (out ++ r ∷ []) (f.Bracket k (bound fs) ∷ fs) false)
placed (role.Close k) r out fs = close_by k r (out ++ (unlisted fs).marks) (unlisted fs).frames
placed (role.Bullet op) r out fs = Some (at (out ++ mark_at (t.ListOpen op) r ∷ []) (f.List op r.column ∷ fs) false)
placed role.Separator r out fs = Some (at ((out ++ (unlisted fs).marks) ++ r ∷ []) (unlisted fs).frames false)
placed role.Plain r out fs = Some (at (out ++ r ∷ []) fs (ends_operand r.token))

abbrev pub placed_at : Settled → Marker → Lexeme → Option Marker
placed_at s m r =
    if s.is_next then Some (at (m.out ++ s.marks) s.frames false)
    else if nat_lt r.column (bound s.frames) then None
    else placed (role_of m.after_operand (kind_of r.token)) r (m.out ++ s.marks) s.frames

unfoldable pub step : Marker → Lexeme → Option Marker
step m r = placed_at (settle r m.frames) m r

abbrev pub finish_by : List Lexeme → List Frame → Option (List Lexeme)
finish_by out [] = Some out
finish_by out (f ∷ fs) = None

unfoldable pub finish : Marker → Option (List Lexeme)
finish m = finish_by (m.out ++ (unlisted m.frames).marks) (unlisted m.frames).frames

abbrev pub run_by : Option Marker → List Lexeme → Option (List Lexeme)
run_by None rs = None
run_by (Some m) [] = finish m
run_by (Some m) (r ∷ rs) = run_by (step m r) rs

abbrev pub run : Marker → List Lexeme → Option (List Lexeme)
run m = run_by (Some m)

abbrev pub marked : List Lexeme → Option (List Lexeme)
marked = run start

-- the tokens of a text with their marks
abbrev pub tokens : (limit : ℕ) → List ℕ → Option (List Lexeme)
tokens limit text = and_then (lexed limit (length text) 0 0 [] text) marked
