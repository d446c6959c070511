-- The tokens that the function gives are those that the text has.
use Rattle.std.proofs.Common.{◌≡◌, ◌≤◌, ◌<◌, ◌+◌, ℕ, zero, suc, Bool, true, false, cond, nat_eq, nat_lt, List, [], ◌∷◌, ◌++◌, length, take, drop, Option, Some, None, refl, sym, ◌∙◌, ap, subst, arith}
use Rattle.std.proofs.Math.Seq.{take-append_seam, drop-append_seam}
use Rattle.std.proofs.lemmas.Bool.{eqb-true, ltb-true, lt-ltb}
use Rattle.std.proofs.lemmas.List.{append_assoc, append-nil, length-append}
use Rattle.pgo_lexer.specs.declared.token.Token.{Token}
use Rattle.pgo_lexer.specs.declared.token.Lexeme.{Lexeme}
use Rattle.pgo_lexer.specs.declared.piece.Piece.{Piece}
use Rattle.pgo_lexer.specs.Lexemes.{IsPiece, Lexes, columns_behind}
use Rattle.pgo_lexer.specs.Lexemes as l
use Rattle.pgo_lexer.specs.Pieces.{first_piece}
use Rattle.pgo_lexer.specs.Lexing.{and_then, added, lexed}
use Rattle.pgo_lexer.proofs.Runs.{if_some, no_some, cond_true, cond_false}
use Rattle.pgo_lexer.proofs.PieceSound.{piece_sound}
use Rattle.pgo_lexer.proofs.PieceComplete.{Found, piece_found}

abbrev lexeme : Token → (column start n : ℕ) → Lexeme
lexeme token column start n = record { token = token; column = column; start = start; stop = start + n }

-- ---- what is given is right

-- these tokens are those before, and then the text's
pub record Reads (limit column at : ℕ) (done : List Lexeme) (bs : List ℕ) (all : List Lexeme) : Type 0 where
  pub more : List Lexeme
  pub both : all ≡ done ++ more
  pub is : Lexes column at bs more
  pub few : length all ≤ limit

-- the rest of a text behind a piece
abbrev Rest : (limit n column at : ℕ) → Piece → List ℕ → List Lexeme → Option (List Lexeme)
Rest limit n column at p bs done = lexed limit n (columns_behind column (take p.length bs)) (at + p.length) done (drop p.length bs)

reads_end : (limit column at : ℕ) (done all : List Lexeme) (bs : List ℕ) → length done ≤ limit → nat_eq (length bs) 0 ≡ true → Some done ≡ Some all → Reads limit column at done bs all
reads_end limit column at done all [] few none e =
    let same : done ≡ all = cc in
    record { more = []; both = sym same ∙ sym (append-nil done); is = l.end; few = omega (arith, few, ap length same) }
reads_end limit column at done all (b ∷ bs) few none e = absurd (let q = eqb-true (length (b ∷ bs)) 0 none in omega (arith, q))

-- behind a piece that is no token
pass_front : (limit column at : ℕ) (done all : List Lexeme) (front rest : List ℕ) → IsPiece front rest None → Reads limit (columns_behind column front) (at + length front) done rest all → Reads limit column at done (front ++ rest) all
pass_front limit column at done all front rest is h = record { more = h.more; both = h.both; is = l.pass front is h.is; few = h.few }

token_front : (limit column at : ℕ) (done all : List Lexeme) (front rest : List ℕ) (token : Token) → IsPiece front rest (Some token) → Reads limit (columns_behind column front) (at + length front) (done ++ lexeme token column at (length front) ∷ []) rest all → Reads limit column at done (front ++ rest) all
token_front limit column at done all front rest token is h = record {
  more = lexeme token column at (length front) ∷ h.more;
  both = h.both ∙ append_assoc done (lexeme token column at (length front) ∷ []) h.more;
  is = l.token front is h.is;
  few = h.few;
}

-- what is read behind a piece, at its front and rest
at_rest : (limit n column at : ℕ) (done : List Lexeme) (front rest : List ℕ) → lexed limit n (columns_behind column (take (length front) (front ++ rest))) (at + length front) done (drop (length front) (front ++ rest)) ≡ lexed limit n (columns_behind column front) (at + length front) done rest
at_rest limit n column at done front rest = λ i. lexed limit n (columns_behind column (take-append_seam front rest i)) (at + length front) done (drop-append_seam front rest i)

front_sound : (limit n column at : ℕ) (done all : List Lexeme) (front rest : List ℕ) (o : Option Token) → IsPiece front rest o → length done ≤ limit
    → ((column at : ℕ) (done : List Lexeme) (bs : List ℕ) → length done ≤ limit → lexed limit n column at done bs ≡ Some all → Reads limit column at done bs all)
    → and_then (added limit column at done (length front) o) (λ more. lexed limit n (columns_behind column (take (length front) (front ++ rest))) (at + length front) more (drop (length front) (front ++ rest))) ≡ Some all
    → Reads limit column at done (front ++ rest) all
front_sound limit n column at done all front rest None is few ih e = pass_front limit column at done all front rest is (ih (columns_behind column front) (at + length front) done rest few (sym (at_rest limit n column at done front rest) ∙ e))
front_sound limit n column at done all front rest (Some token) is few ih e = go (nat_lt (length done) limit) refl e
  where
    go : (v : Bool) → nat_lt (length done) limit ≡ v
        → and_then (cond v (Some (done ++ lexeme token column at (length front) ∷ [])) None) (λ more. lexed limit n (columns_behind column (take (length front) (front ++ rest))) (at + length front) more (drop (length front) (front ++ rest))) ≡ Some all
        → Reads limit column at done (front ++ rest) all
    go false t e = no_some all _ e
    go true t e =
        let one = lexeme token column at (length front) in
        let less = ltb-true (length done) limit t in
        let long = length-append done (one ∷ []) in
        token_front limit column at done all front rest token is (ih (columns_behind column front) (at + length front) (done ++ one ∷ []) rest (omega (arith, less, long)) (sym (at_rest limit n column at (done ++ one ∷ []) front rest) ∙ e))

piece_by : (limit n column at : ℕ) (done all : List Lexeme) (bs : List ℕ) (o : Option Piece) → length done ≤ limit → first_piece bs ≡ o
    → ((column at : ℕ) (done : List Lexeme) (bs : List ℕ) → length done ≤ limit → lexed limit n column at done bs ≡ Some all → Reads limit column at done bs all)
    → and_then o (λ p. and_then (added limit column at done p.length p.token) (λ more. lexed limit n (columns_behind column (take p.length bs)) (at + p.length) more (drop p.length bs))) ≡ Some all
    → Reads limit column at done bs all
piece_by limit n column at done all bs None few is ih e = no_some all _ e
piece_by limit n column at done all bs (Some p) few is ih e =
    let b = piece_sound bs p is in
    let P : ℕ → List ℕ → Type 0 = λ k x. and_then (added limit column at done k p.token) (λ more. lexed limit n (columns_behind column (take k x)) (at + k) more (drop k x)) ≡ Some all in
    let e2 : P (length b.front) (b.front ++ b.rest) = subst (λ k. P k (b.front ++ b.rest)) (sym b.long) (subst (λ x. P p.length x) b.split e) in
    subst (λ x. Reads limit column at done x all) (sym b.split) (front_sound limit n column at done all b.front b.rest p.token b.is few ih e2)

pub lexed_sound : (limit n column at : ℕ) (done all : List Lexeme) (bs : List ℕ) → length done ≤ limit → lexed limit n column at done bs ≡ Some all → Reads limit column at done bs all
unfolding lexed
lexed_sound limit zero column at done all bs few e = if_some (nat_eq (length bs) 0) (Some done) None all (Reads limit column at done bs all) e (λ t e. reads_end limit column at done all bs few t e) (λ _ e. no_some all _ e)
lexed_sound limit (suc n) column at done all bs few e =
    if_some (nat_eq (length bs) 0) (Some done) _ all (Reads limit column at done bs all) e (λ t e. reads_end limit column at done all bs few t e)
    (λ _ e. piece_by limit n column at done all bs (first_piece bs) few refl (λ column at done bs few e. lexed_sound limit n column at done all bs few e) e)

-- ---- what is right is given

not_zero : (n : ℕ) → 0 < n → nat_eq n 0 ≡ false
not_zero n h = go (nat_eq n 0) refl
  where
    go : (t : Bool) → nat_eq n 0 ≡ t → nat_eq n 0 ≡ false
    go true e = absurd (let z = eqb-true n 0 e in omega arith)
    go false e = e

ends : (limit n column at : ℕ) (done : List Lexeme) → lexed limit n column at done [] ≡ Some done
unfolding lexed
ends limit zero column at done = refl
ends limit (suc n) column at done = refl

goes : (limit n column at : ℕ) (done more : List Lexeme) (front rest : List ℕ) (o : Option Token) → Found front rest o → added limit column at done (length front) o ≡ Some more → lexed limit (suc n) column at done (front ++ rest) ≡ lexed limit n (columns_behind column front) (at + length front) more rest
unfolding lexed
goes limit n column at done more front rest o found e =
    let long = length-append front rest in
    cond_false (nat_eq (length (front ++ rest)) 0) (Some done) _ (not_zero (length (front ++ rest)) (omega (arith, long, found.some)))
    ∙ ap (λ t. and_then t (λ p. and_then (added limit column at done p.length p.token) (λ more. lexed limit n (columns_behind column (take p.length (front ++ rest))) (at + p.length) more (drop p.length (front ++ rest))))) found.is
    ∙ ap (λ t. and_then t (λ more. lexed limit n (columns_behind column (take (length front) (front ++ rest))) (at + length front) more (drop (length front) (front ++ rest)))) e
    ∙ at_rest limit n column at more front rest

pub lexed_complete : {column at : ℕ} {bs : List ℕ} {ls : List Lexeme} → Lexes column at bs ls → (limit n : ℕ) (done : List Lexeme) → length bs ≤ n → length done + length ls ≤ limit → lexed limit n column at done bs ≡ Some (done ++ ls)
lexed_complete (l.end {column} {offset = at}) limit n done h few = ends limit n column at done ∙ ap Some (sym (append-nil done))
lexed_complete (l.pass {column} {offset = at} front {rest} {ls} is d) limit zero done h few = absurd (let f = piece_found is in omega (arith, length-append front rest, f.some))
lexed_complete (l.pass {column} {offset = at} front {rest} {ls} is d) limit (suc n) done h few =
    let f = piece_found is in
    let long = length-append front rest in
    goes limit n column at done done front rest None f refl ∙ lexed_complete d limit n done (omega (arith, long, f.some)) few
lexed_complete (l.token {column} {offset = at} front {rest} {ls} {token} is d) limit zero done h few = absurd (let f = piece_found is in omega (arith, length-append front rest, f.some))
lexed_complete (l.token {column} {offset = at} front {rest} {ls} {token} is d) limit (suc n) done h few =
    let f = piece_found is in
    let long = length-append front rest in
    let one = lexeme token column at (length front) in
    let longer = length-append done (one ∷ []) in
    let room : nat_lt (length done) limit ≡ true = lt-ltb (length done) limit (omega arith) in
    goes limit n column at done (done ++ one ∷ []) front rest (Some token) f (cond_true (nat_lt (length done) limit) (Some (done ++ one ∷ [])) None room)
    ∙ lexed_complete d limit n (done ++ one ∷ []) (omega (arith, long, f.some)) (omega (arith, longer)) ∙ ap Some (append_assoc done (one ∷ []) ls)
