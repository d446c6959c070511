-- What a loop over the pieces of a text takes up to an offset are the tokens before it.
use Rattle.std.proofs.Common.{◌≡◌, ◌<◌, ◌+◌, ℕ, List, [], ◌++◌, length, take, drop, Option, Some, None, sym, ◌∙◌, ap, subst, arith}
use Rattle.std.proofs.Math.Seq.{take-append_seam, drop-append_seam}
use Rattle.std.specs.List.{All}
use Rattle.std.proofs.lemmas.List.{append_assoc, append-nil, length-append}
use Rattle.std.proofs.lemmas.List.Elements.{All-push}
use Rattle.pgo_lexer.specs.declared.token.Token.{Token}
use Rattle.pgo_lexer.specs.declared.token.Lexeme.{Lexeme}
use Rattle.pgo_lexer.specs.declared.piece.Piece.{Piece}
use Rattle.pgo_lexer.specs.Lexemes.{IsPiece, columns_behind}
use Rattle.pgo_lexer.specs.Pieces.{first_piece}
use Rattle.pgo_lexer.specs.Prefixes.{token_of, BeginsNoPiece, LexesTo}
use Rattle.pgo_lexer.specs.Prefixes as p
use Rattle.pgo_lexer.proofs.PieceSound.{piece_sound}
use Rattle.pgo_lexer.proofs.PieceComplete.{piece_found}

-- where the function gives no piece, none stands
pub no_piece : (bs : List ℕ) → first_piece bs ≡ None → BeginsNoPiece bs
no_piece bs e = λ front rest o split is. absurd (let f = (piece_found is).is in let q = sym e ∙ ap first_piece split ∙ f in cc)

front_to : (end column at : ℕ) (front rest : List ℕ) (o : Option Token) (ls : List Lexeme) → at < end → IsPiece front rest o
    → LexesTo end (columns_behind column front) (at + length front) rest ls → LexesTo end column at (front ++ rest) (token_of column at (length front) o ++ ls)
front_to end column at front rest None ls h is d = p.pass front h is d
front_to end column at front rest (Some token) ls h is d = p.token front h is d

-- the tokens behind a piece, and with it
pub piece_to : (end column at : ℕ) (bs : List ℕ) (piece : Piece) (ls : List Lexeme) → first_piece bs ≡ Some piece → at < end
    → LexesTo end (columns_behind column (take piece.length bs)) (at + piece.length) (drop piece.length bs) ls → LexesTo end column at bs (token_of column at piece.length piece.token ++ ls)
piece_to end column at bs piece ls is h d =
    let b = piece_sound bs piece is in
    let P : ℕ → List ℕ → Type 0 = λ k x. LexesTo end (columns_behind column (take k x)) (at + k) (drop k x) ls in
    let e : P (length b.front) (b.front ++ b.rest) = subst (λ k. P k (b.front ++ b.rest)) (sym b.long) (subst (λ x. P piece.length x) b.split d) in
    let Q : List ℕ → List ℕ → Type 0 = λ x y. LexesTo end (columns_behind column x) (at + length b.front) y ls in
    let e2 : Q b.front b.rest = subst (λ x. Q x b.rest) (take-append_seam b.front b.rest) (subst (λ y. Q (take (length b.front) (b.front ++ b.rest)) y) (drop-append_seam b.front b.rest) e) in
    let made : LexesTo end column at (b.front ++ b.rest) (token_of column at (length b.front) piece.token ++ ls) = front_to end column at b.front b.rest piece.token ls h b.is e2 in
    subst (λ k. LexesTo end column at bs (token_of column at k piece.token ++ ls)) b.long (subst (λ x. LexesTo end column at x (token_of column at (length b.front) piece.token ++ ls)) (sym b.split) made)

-- a piece has bytes
pub piece_some : (bs : List ℕ) (piece : Piece) → first_piece bs ≡ Some piece → 0 < piece.length
piece_some bs piece is = let b = piece_sound bs piece is in let f = (piece_found b.is).some in omega (arith, f, b.long)

-- no bytes, no piece
pub no_bytes : (bs : List ℕ) → length bs ≡ 0 → BeginsNoPiece bs
no_bytes bs none = λ front rest o split is. absurd (let f = (piece_found is).some in let long = length-append front rest in let q = ap length split in omega (arith, f, long, q, none))

-- what whatever follows gives, where nothing follows
pub at_end : (P : List Lexeme → Type 0) (done : List Lexeme) → P (done ++ []) → P done
at_end P done h = subst P (append-nil done) h

-- one turn: the tokens behind a piece, behind those that were taken and its own
pub turn_to : (P : List Lexeme → Type 0) (end column at next : ℕ) (bs front rest : List ℕ) (piece : Piece) (done more : List Lexeme) → ((ls : List Lexeme) → LexesTo end column at bs ls → P (done ++ ls))
    → first_piece bs ≡ Some piece → at < end → front ≡ take piece.length bs → next ≡ columns_behind column front → rest ≡ drop piece.length bs → LexesTo end next (at + piece.length) rest more
    → P ((done ++ token_of column at piece.length piece.token) ++ more)
turn_to P end column at next bs front rest piece done more go is h a b c d =
    let e : LexesTo end (columns_behind column (take piece.length bs)) (at + piece.length) (drop piece.length bs) more =
    subst (λ n. LexesTo end n (at + piece.length) (drop piece.length bs) more) (b ∙ ap (columns_behind column) a) (subst (λ x. LexesTo end next (at + piece.length) x more) c d) in
    subst P (sym (append_assoc done (token_of column at piece.length piece.token) more)) (go (token_of column at piece.length piece.token ++ more) (piece_to end column at bs piece more is h e))

-- what holds of the token that is added holds of all
pub turn_all : (P : Lexeme → Type 0) (column start n : ℕ) (o : Option Token) (done : List Lexeme) → All P done → ((token : Token) → P (record { token = token; column = column; start = start; stop = start + n })) → All P (done ++ token_of column start n o)
turn_all P column start n None done h k = subst (All P) (sym (append-nil done)) h
turn_all P column start n (Some token) done h k = All-push P done (record { token = token; column = column; start = start; stop = start + n }) h (k token)
