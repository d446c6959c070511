-- Which tokens with marks stand for the tokens of a text: the rules of junction lists.
use Rattle.std.specs.Prelude.{◌≡◌, ◌≤◌, ◌+◌, ◌⊎◌, ℕ, Bool, true, false, List, [], ◌∷◌, ◌++◌}
use Rattle.pgo_lexer.specs.declared.token.Token.{Token}
use Rattle.pgo_lexer.specs.declared.token.Token.TheVariants as t
use Rattle.pgo_lexer.specs.declared.token.Lexeme.{Lexeme}
use Rattle.pgo_lexer.specs.declared.symbol.Bracket.{Bracket}
use Rattle.pgo_lexer.specs.declared.symbol.Junction.{Junction}
use Rattle.pgo_lexer.specs.declared.kind.Kind.TheVariants as kind
use Rattle.pgo_lexer.specs.declared.kind.Role.TheVariants as role
use Rattle.pgo_lexer.specs.Kinds.{kind_of, role_of, ends_operand}

-- a mark in a bullet's place
abbrev pub mark_at : Token → Lexeme → Lexeme
mark_at mark r = record { token = mark; column = r.column; start = r.start; stop = r.stop }

-- the mark behind a list has no place of its own
abbrev pub list_close : Lexeme
list_close = record { token = t.ListClose; column = 0; start = 0; stop = 0 }

-- a list of bullets in this column is over: a `;` comes next, or a token that isn't right of the column and is no further bullet
abbrev pub Past : Junction → ℕ → List Lexeme → Type 0
Past op c [] = Unit {0}
Past op c (r ∷ rs) = (kind_of r.token ≡ kind.Separator) ⊎ ((r.column ≤ c) × (r.column ≡ c → kind_of r.token ≡ kind.Junction op → ⊥))

-- Marked s b p rs ms q: the tokens rs, whose brackets are closed among them, are ms with the marks. s says whether a `;`
-- may stand among them outside brackets, b is the least column that they may have, p says whether an operand ends
-- before them, and q whether one ends with them.
-- Bullets op c p rs ms q: further items of a list of op in column c.
mutual
  pub data Marked : (separators : Bool) (least : ℕ) (before : Bool) → List Lexeme → List Lexeme → (behind : Bool) → Type 0 where
    done : {s : Bool} {b : ℕ} {p : Bool} → Marked s b p [] [] p
    plain : {s : Bool} {b : ℕ} {p q : Bool} {r : Lexeme} {rs ms : List Lexeme} → b ≤ r.column → role_of p (kind_of r.token) ≡ role.Plain
        → Marked s b (ends_operand r.token) rs ms q → Marked s b p (r ∷ rs) (r ∷ ms) q
    separator : {b : ℕ} {p q : Bool} {r : Lexeme} {rs ms : List Lexeme} → b ≤ r.column → kind_of r.token ≡ kind.Separator
        → Marked true b false rs ms q → Marked true b p (r ∷ rs) (r ∷ ms) q
    bracket : {s : Bool} {b : ℕ} {p u q : Bool} {k : Bracket} {o : Lexeme} (z : Lexeme) {xs rs ms ns : List Lexeme} → b ≤ o.column → kind_of o.token ≡ kind.Open k
        → Marked true b false xs ms u → b ≤ z.column → kind_of z.token ≡ kind.Close k → Marked s b true rs ns q
        → Marked s b p (o ∷ (xs ++ (z ∷ rs))) (o ∷ (ms ++ (z ∷ ns))) q
    list : {s : Bool} {b : ℕ} {u v q : Bool} {op : Junction} {r : Lexeme} {xs ys rs ls ms ns : List Lexeme} → b ≤ r.column → kind_of r.token ≡ kind.Junction op
        → Marked false (r.column + 1) false xs ls u → Bullets op r.column u ys ms v → Past op r.column rs → Marked s b v rs ns q
        → Marked s b false (r ∷ (xs ++ (ys ++ rs))) (mark_at (t.ListOpen op) r ∷ (ls ++ (ms ++ (list_close ∷ ns)))) q

  pub data Bullets : Junction → (column : ℕ) (before : Bool) → List Lexeme → List Lexeme → (behind : Bool) → Type 0 where
    none : {op : Junction} {c : ℕ} {p : Bool} → Bullets op c p [] [] p
    next : {op : Junction} {c : ℕ} {p u q : Bool} {r : Lexeme} {xs ys ms ns : List Lexeme} → kind_of r.token ≡ kind.Junction op → r.column ≡ c
        → Marked false (c + 1) false xs ms u → Bullets op c u ys ns q → Bullets op c p (r ∷ (xs ++ ys)) (mark_at t.ListNext r ∷ (ms ++ ns)) q

-- tokens in this column or right of it
abbrev pub AllFrom : (column : ℕ) → List Lexeme → Type 0
AllFrom c [] = Unit {0}
AllFrom c (r ∷ rs) = (c ≤ r.column) × AllFrom c rs

-- the tokens of a text, and the same with the marks of its junction lists
abbrev pub Marks : List Lexeme → List Lexeme → Type 0
Marks rs ms = (q : Bool) × Marked true 0 false rs ms q
