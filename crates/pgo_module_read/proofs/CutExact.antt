-- The tokens that the function gives for a module are those up to its closing row.
use Rattle.std.proofs.Common.{◌≡◌, ◌≤◌, ◌<◌, ◌+◌, ℕ, zero, suc, Bool, true, false, ◌&&◌, nat_eq, nat_lt, cond, List, [], ◌∷◌, ◌++◌, length, take, drop, Option, Some, None, refl, sym, ◌∙◌, ap, subst, arith}
use Rattle.std.proofs.Math.Seq.{take-append_seam, drop-append_seam}
use Rattle.std.proofs.lemmas.Bool.{ltb-true, lt-ltb}
use Rattle.std.proofs.lemmas.List.{append_assoc, append-nil, length-append}
use Rattle.pgo_lexer.specs.declared.token.Token.{Token}
use Rattle.pgo_lexer.specs.declared.token.Lexeme.{Lexeme}
use Rattle.pgo_lexer.specs.declared.piece.Piece.{Piece}
use Rattle.pgo_lexer.specs.Lexemes.{IsPiece, columns_behind}
use Rattle.pgo_lexer.specs.Pieces.{first_piece}
use Rattle.pgo_lexer.specs.Lexing.{and_then, added}
use Rattle.pgo_lexer.proofs.Runs.{if_some, no_some, cond_true, cond_false}
use Rattle.pgo_lexer.proofs.PieceSound.{piece_sound}
use Rattle.pgo_lexer.proofs.PieceComplete.{piece_found}
use Rattle.pgo_spec_text.specs.SpecText.{Cut, Anything, lexeme}
use Rattle.pgo_spec_text.specs.SpecText as s
use Rattle.pgo_spec_text.proofs.Adding.{column_of, column_further, offset_further}
use Rattle.pgo_module_spells.specs.Spells.{is_defines, is_row, EndsWithRow}
use Rattle.pgo_module_spells.specs.Spells as m
use Rattle.pgo_module_read.specs.Cutting.{row_behind, touches, is_last, module_tokens}

-- ---- the closing row

-- where a token stops, if it is a `==`
abbrev pub stop_of : Lexeme → Option ℕ
stop_of l = row_behind None l.stop (Some l.token)

-- the last of these tokens is the second `==`, where this is behind the token before them
pub data Ends : Option ℕ → List Lexeme → Type 0 where
  here : {row : Option ℕ} {l : Lexeme} → touches row l.start l.token ≡ true → Ends row (l ∷ [])
  later : {row : Option ℕ} {l : Lexeme} {ls : List Lexeme} → touches row l.start l.token ≡ false → Ends (stop_of l) ls → Ends row (l ∷ ls)

pub no_ends : (row : Option ℕ) → Ends row [] → ⊥
no_ends row d = elim d [ ]

row_is : (x y : Bool) (start stop : ℕ) (t : Token) → is_defines t ≡ y → touches (cond x (Some stop) None) start t ≡ ((x && y) && nat_eq start stop)
row_is true y start stop t e = ap (λ z. z && nat_eq start stop) e
row_is false y start stop t e = refl

touching : (a b : Lexeme) → touches (stop_of a) b.start b.token ≡ is_row a b
touching a b = row_is (is_defines a.token) (is_defines b.token) b.start a.stop b.token refl

ends_of : {ls : List Lexeme} → EndsWithRow ls → (a : Lexeme) (rest : List Lexeme) → ls ≡ a ∷ rest → Ends (stop_of a) rest
ends_of (m.row {a} {b} e) c rest q =
    let same : a ≡ c = cc in
    let rest_is : b ∷ [] ≡ rest = cc in
    subst (λ z. Ends (stop_of z) rest) same (subst (λ z. Ends (stop_of a) z) rest_is (here (touching a b ∙ e)))
ends_of (m.before {a} {b} {ls} e d) c rest q =
    let same : a ≡ c = cc in
    let rest_is : b ∷ ls ≡ rest = cc in
    subst (λ z. Ends (stop_of z) rest) same (subst (λ z. Ends (stop_of a) z) rest_is (later (touching a b ∙ e) (ends_of d b ls refl)))

pub row_ends : (ls : List Lexeme) → EndsWithRow ls → Ends None ls
row_ends [] d = elim d [ ]
row_ends (a ∷ ls) d = later refl (ends_of d a ls refl)

row_of : (a : Lexeme) (row : Option ℕ) (ls : List Lexeme) → Ends row ls → row ≡ stop_of a → EndsWithRow (a ∷ ls)
row_of a row ls (here {l = b} e) q = m.row (sym (touching a b) ∙ ap (λ z. touches z b.start b.token) (sym q) ∙ e)
row_of a row ls (later {l = b} {ls = others} e d) q = m.before (sym (touching a b) ∙ ap (λ z. touches z b.start b.token) (sym q) ∙ e) (row_of b (stop_of b) others d refl)

pub ends_row : (row : Option ℕ) (ls : List Lexeme) → row ≡ None → Ends row ls → EndsWithRow ls
ends_row row ls q (here {l = b} e) = absurd (let z = ap (λ z. touches z b.start b.token) (sym q) ∙ e in cc)
ends_row row ls q (later {l = b} {ls = others} e d) = row_of b (stop_of b) others d refl

-- what is behind a token doesn't depend on what is before it
behind_token_is : (row : Option ℕ) (stop : ℕ) (t : Token) → row_behind row stop (Some t) ≡ row_behind None stop (Some t)
behind_token_is row stop t = refl

-- ---- one more token

added_sound : (limit : ℕ) (before piece : List ℕ) (token : Token) (done more : List Lexeme) → added limit (column_of before) (length before) done (length piece) (Some token) ≡ Some more
    → (length done < limit) × (more ≡ done ++ lexeme token before piece ∷ [])
added_sound limit before piece token done more e =
    if_some (nat_lt (length done) limit) (Some (done ++ lexeme token before piece ∷ [])) None more ((length done < limit) × (more ≡ done ++ lexeme token before piece ∷ [])) e
    (λ t e. (ltb-true (length done) limit t, cc))
    (λ _ e. no_some more _ e)

added_complete : (limit : ℕ) (before piece : List ℕ) (token : Token) (done : List Lexeme) → length done < limit → added limit (column_of before) (length before) done (length piece) (Some token) ≡ Some (done ++ lexeme token before piece ∷ [])
added_complete limit before piece token done room = cond_true (nat_lt (length done) limit) _ _ (lt-ltb (length done) limit room)

-- ---- what is given is right

-- the tokens are those before, and then those of a part up to its closing row
pub record TokensRead (limit : ℕ) (row : Option ℕ) (before : List ℕ) (done : List Lexeme) (bs : List ℕ) (all : List Lexeme) : Type 0 where
  pub part : List ℕ
  pub rest : List ℕ
  pub more : List Lexeme
  pub split : bs ≡ part ++ rest
  pub cut : Cut Anything before part rest more
  pub tokens : all ≡ done ++ more
  pub ends : Ends row more
  pub few : length all ≤ limit

-- the function behind a piece
abbrev Behind : (limit n : ℕ) → Option ℕ → (before piece rest : List ℕ) → List Lexeme → Option (List Lexeme)
Behind limit n row before piece rest done = module_tokens limit n row (columns_behind (column_of before) (take (length piece) (piece ++ rest))) (length before + length piece) done (drop (length piece) (piece ++ rest))

behind_is : (limit n : ℕ) (row : Option ℕ) (before piece rest : List ℕ) (done : List Lexeme) → Behind limit n row before piece rest done ≡ module_tokens limit n row (column_of (before ++ piece)) (length (before ++ piece)) done rest
behind_is limit n row before piece rest done =
    (λ i. module_tokens limit n row (columns_behind (column_of before) (take-append_seam piece rest i)) (offset_further before piece i) done (drop-append_seam piece rest i))
    ∙ (λ i. module_tokens limit n row (column_further before piece i) (length (before ++ piece)) done rest)

pass_piece : (limit : ℕ) (row : Option ℕ) (before piece rest : List ℕ) (done all : List Lexeme) → IsPiece piece rest None → TokensRead limit row (before ++ piece) done rest all → TokensRead limit row before done (piece ++ rest) all
pass_piece limit row before piece rest done all is r = record {
  part = piece ++ r.part;
  rest = r.rest;
  more = r.more;
  split = (λ i. piece ++ r.split i) ∙ sym (append_assoc piece r.part r.rest);
  cut = s.pass piece (subst (λ x. IsPiece piece x None) r.split is) tt r.cut;
  tokens = r.tokens;
  ends = r.ends;
  few = r.few;
}

token_piece : (limit : ℕ) (row : Option ℕ) (before piece rest : List ℕ) (token : Token) (done all : List Lexeme) → IsPiece piece rest (Some token) → is_last row (length before) (Some token) ≡ false
    → TokensRead limit (row_behind row (length before + length piece) (Some token)) (before ++ piece) (done ++ lexeme token before piece ∷ []) rest all → TokensRead limit row before done (piece ++ rest) all
token_piece limit row before piece rest token done all is on r = record {
  part = piece ++ r.part;
  rest = r.rest;
  more = lexeme token before piece ∷ r.more;
  split = (λ i. piece ++ r.split i) ∙ sym (append_assoc piece r.part r.rest);
  cut = s.token piece (subst (λ x. IsPiece piece x (Some token)) r.split is) r.cut;
  tokens = r.tokens ∙ append_assoc done (lexeme token before piece ∷ []) r.more;
  ends = later on r.ends;
  few = r.few;
}

last_piece : (limit : ℕ) (row : Option ℕ) (before piece rest : List ℕ) (token : Token) (done all : List Lexeme) → IsPiece piece rest (Some token) → length done < limit → is_last row (length before) (Some token) ≡ true
    → Some (done ++ lexeme token before piece ∷ []) ≡ Some all → TokensRead limit row before done (piece ++ rest) all
last_piece limit row before piece rest token done all is room e same =
    let one = lexeme token before piece in
    let all_is : done ++ one ∷ [] ≡ all = cc in
    let long = length-append done (one ∷ []) in
    record {
      part = piece ++ [];
      rest = rest;
      more = one ∷ [];
      split = (λ i. sym (append-nil piece) i ++ rest);
      cut = s.token piece is s.end;
      tokens = sym all_is;
      ends = here e;
      few = omega (arith, long, room, ap length all_is);
    }

abbrev Reads : (limit n : ℕ) → List Lexeme → Type 0
Reads limit n all = (row : Option ℕ) (before bs : List ℕ) (done : List Lexeme) → length done ≤ limit → module_tokens limit n row (column_of before) (length before) done bs ≡ Some all → TokensRead limit row before done bs all

-- what comes behind a piece
abbrev Next : (limit n : ℕ) → Option ℕ → (before piece rest : List ℕ) → Option Token → List Lexeme → Option (List Lexeme)
Next limit n row before piece rest o all = cond (is_last row (length before) o) (Some all) (Behind limit n (row_behind row (length before + length piece) o) before piece rest all)

at_piece : (limit n : ℕ) (row : Option ℕ) (before piece rest : List ℕ) (done all : List Lexeme) (o : Option Token) → length done ≤ limit → IsPiece piece rest o → Reads limit n all
    → and_then (added limit (column_of before) (length before) done (length piece) o) (Next limit n row before piece rest o) ≡ Some all → TokensRead limit row before done (piece ++ rest) all
at_piece limit n row before piece rest done all None few is ih e = pass_piece limit row before piece rest done all is (ih row (before ++ piece) rest done few (sym (behind_is limit n row before piece rest done) ∙ e))
at_piece limit n row before piece rest done all (Some token) few is ih e = go (added limit (column_of before) (length before) done (length piece) (Some token)) refl e
  where
    go : (o : Option (List Lexeme)) → added limit (column_of before) (length before) done (length piece) (Some token) ≡ o → and_then o (Next limit n row before piece rest (Some token)) ≡ Some all → TokensRead limit row before done (piece ++ rest) all
    go None got e = no_some all _ e
    go (Some more) got e =
        let a = added_sound limit before piece token done more got in
        let room = a.0 in
        let long = length-append done (lexeme token before piece ∷ []) in
        let further = row_behind row (length before + length piece) (Some token) in
        if_some (is_last row (length before) (Some token)) _ _ all (TokensRead limit row before done (piece ++ rest) all) e
        (λ t e. last_piece limit row before piece rest token done all is room t (ap Some (sym a.1) ∙ e))
        (λ f e. token_piece limit row before piece rest token done all is f
        (ih further (before ++ piece) rest (done ++ lexeme token before piece ∷ []) (omega (arith, long, room))
        (sym (behind_is limit n further before piece rest (done ++ lexeme token before piece ∷ [])) ∙ (λ i. Behind limit n further before piece rest (sym a.1 i)) ∙ e)))

by_piece : (limit n : ℕ) (row : Option ℕ) (before bs : List ℕ) (done all : List Lexeme) (o : Option Piece) → length done ≤ limit → first_piece bs ≡ o → Reads limit n all
    → and_then o (λ p. and_then (added limit (column_of before) (length before) done p.length p.token) (λ more. cond (is_last row (length before) p.token) (Some more) (module_tokens limit n (row_behind row (length before + p.length) p.token) (columns_behind (column_of before) (take p.length bs)) (length before + p.length) more (drop p.length bs)))) ≡ Some all
    → TokensRead limit row before done bs all
by_piece limit n row before bs done all None few is ih e = no_some all _ e
by_piece limit n row before bs done all (Some p) few is ih e =
    let b = piece_sound bs p is in
    let P : ℕ → List ℕ → Type 0 = λ k x. and_then (added limit (column_of before) (length before) done k p.token) (λ more. cond (is_last row (length before) p.token) (Some more) (module_tokens limit n (row_behind row (length before + k) p.token) (columns_behind (column_of before) (take k x)) (length before + k) more (drop k x))) ≡ Some all in
    let e2 : P (length b.front) (b.front ++ b.rest) = subst (λ k. P k (b.front ++ b.rest)) (sym b.long) (subst (λ x. P p.length x) b.split e) in
    subst (λ x. TokensRead limit row before done x all) (sym b.split) (at_piece limit n row before b.front b.rest done all p.token few b.is ih e2)

pub tokens_sound : (limit n : ℕ) (all : List Lexeme) → Reads limit n all
unfolding module_tokens
tokens_sound limit zero all row before bs done few e = no_some all _ e
tokens_sound limit (suc n) all row before bs done few e = by_piece limit n row before bs done all (first_piece bs) few refl (λ row before bs done few e. tokens_sound limit n all row before bs done few e) e

-- ---- what is right is given

over_piece : (limit n : ℕ) (row : Option ℕ) (before piece rest : List ℕ) (done all : List Lexeme) (o : Option Token) → IsPiece piece rest o → added limit (column_of before) (length before) done (length piece) o ≡ Some all
    → module_tokens limit (suc n) row (column_of before) (length before) done (piece ++ rest) ≡ Next limit n row before piece rest o all
unfolding module_tokens
over_piece limit n row before piece rest done all o is e =
    ap (λ t. and_then t (λ p. and_then (added limit (column_of before) (length before) done p.length p.token) (λ more. cond (is_last row (length before) p.token) (Some more) (module_tokens limit n (row_behind row (length before + p.length) p.token) (columns_behind (column_of before) (take p.length (piece ++ rest))) (length before + p.length) more (drop p.length (piece ++ rest)))))) (piece_found is).is
    ∙ ap (λ t. and_then t (Next limit n row before piece rest o)) e

-- what the first of these tokens is
data First (row : Option ℕ) (l : Lexeme) (ls : List Lexeme) : Type 0 where
  is_end : touches row l.start l.token ≡ true → ls ≡ [] → First row l ls
  goes_on : touches row l.start l.token ≡ false → Ends (stop_of l) ls → First row l ls

first_by : (row : Option ℕ) (ks : List Lexeme) → Ends row ks → (l : Lexeme) (ls : List Lexeme) → ks ≡ l ∷ ls → First row l ls
first_by row ks (here {l = a} e) l ls q =
    let same : a ≡ l = cc in
    let none : ls ≡ [] = cc in
    is_end (ap (λ z. touches row z.start z.token) (sym same) ∙ e) none
first_by row ks (later {l = a} {ls = others} e d) l ls q =
    let same : a ≡ l = cc in
    let rest_is : others ≡ ls = cc in
    goes_on (ap (λ z. touches row z.start z.token) (sym same) ∙ e) (subst (λ z. Ends (stop_of z) ls) same (subst (λ z. Ends (stop_of a) z) rest_is d))

behind_token : (limit n : ℕ) (row : Option ℕ) (before piece rest : List ℕ) (token : Token) (done ls : List Lexeme) → First row (lexeme token before piece) ls
    → (Ends (stop_of (lexeme token before piece)) ls → module_tokens limit n (row_behind row (length before + length piece) (Some token)) (column_of (before ++ piece)) (length (before ++ piece)) (done ++ lexeme token before piece ∷ []) rest ≡ Some ((done ++ lexeme token before piece ∷ []) ++ ls))
    → Next limit n row before piece rest (Some token) (done ++ lexeme token before piece ∷ []) ≡ Some (done ++ lexeme token before piece ∷ ls)
behind_token limit n row before piece rest token done ls (is_end e none) ih =
    cond_true (is_last row (length before) (Some token)) _ _ e ∙ (λ i. Some (done ++ lexeme token before piece ∷ sym none i))
behind_token limit n row before piece rest token done ls (goes_on e ends) ih =
    cond_false (is_last row (length before) (Some token)) _ _ e ∙ behind_is limit n (row_behind row (length before + length piece) (Some token)) before piece rest (done ++ lexeme token before piece ∷ [])
    ∙ ih ends ∙ ap Some (append_assoc done (lexeme token before piece ∷ []) ls)

pub tokens_complete : {before part rest : List ℕ} {more : List Lexeme} → Cut Anything before part rest more → (limit n : ℕ) (row : Option ℕ) (done : List Lexeme) → Ends row more → length part ≤ n → length done + length more ≤ limit
    → module_tokens limit n row (column_of before) (length before) done (part ++ rest) ≡ Some (done ++ more)
tokens_complete (s.end {before} {rest}) limit n row done ends h few = absurd (no_ends row ends)
tokens_complete (s.pass {before} piece {part} {rest} {ls} is clean d) limit zero row done ends h few = absurd (let some = (piece_found is).some in omega (arith, some, length-append piece part))
tokens_complete (s.pass {before} piece {part} {rest} {ls} is clean d) limit (suc n) row done ends h few =
    let some = (piece_found is).some in
    let long = length-append piece part in
    ap (module_tokens limit (suc n) row (column_of before) (length before) done) (append_assoc piece part rest)
    ∙ over_piece limit n row before piece (part ++ rest) done done None is refl
    ∙ behind_is limit n row before piece (part ++ rest) done
    ∙ tokens_complete d limit n row done ends (omega (arith, some, long)) few
tokens_complete (s.token {before} piece {part} {rest} {ls} {token} is d) limit zero row done ends h few = absurd (let some = (piece_found is).some in omega (arith, some, length-append piece part))
tokens_complete (s.token {before} piece {part} {rest} {ls} {token} is d) limit (suc n) row done ends h few =
    let some = (piece_found is).some in
    let long = length-append piece part in
    let one = lexeme token before piece in
    let longer = length-append done (one ∷ []) in
    ap (module_tokens limit (suc n) row (column_of before) (length before) done) (append_assoc piece part rest)
    ∙ over_piece limit n row before piece (part ++ rest) done (done ++ one ∷ []) (Some token) is (added_complete limit before piece token done (omega arith))
    ∙ behind_token limit n row before piece (part ++ rest) token done ls (first_by row (one ∷ ls) ends one ls refl)
    (λ e. tokens_complete d limit n (stop_of one) (done ++ one ∷ []) e (omega (arith, some, long)) (omega (arith, longer)))
