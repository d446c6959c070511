-- The tokens that the function gives for a header are those that stand before the algorithm's comment.
use Rattle.std.proofs.Common.{◌≡◌, ◌≤◌, ◌<◌, ◌+◌, ℕ, zero, suc, true, false, List, [], ◌∷◌, ◌++◌, length, take, drop, Option, Some, None, is_some, refl, sym, ◌∙◌, ap, subst, arith}
use Rattle.std.proofs.Math.Seq.{take-append_seam, drop-append_seam}
use Rattle.std.proofs.lemmas.List.{append_assoc, append-nil, length-append}
use Rattle.pgo_lexer.specs.declared.token.Token.{Token}
use Rattle.pgo_lexer.specs.declared.token.Lexeme.{Lexeme}
use Rattle.pgo_lexer.specs.declared.piece.Piece.{Piece}
use Rattle.pgo_lexer.specs.Lexemes.{IsPiece, columns_behind}
use Rattle.pgo_lexer.specs.Pieces.{first_piece}
use Rattle.pgo_lexer.specs.Lexing.{and_then}
use Rattle.pgo_lexer.proofs.Runs.{if_some, no_some, cond_true, cond_false}
use Rattle.pgo_lexer.proofs.PieceSound.{piece_sound}
use Rattle.pgo_lexer.proofs.PieceComplete.{piece_found}
use Rattle.pgo_spec_text.specs.declared.cut.Head.{Head}
use Rattle.pgo_spec_text.specs.SpecText.{Cut, HasNoAlgorithm, AllAllowed, lexeme}
use Rattle.pgo_spec_text.specs.SpecText as s
use Rattle.pgo_spec_text.specs.Searching.{inside}
use Rattle.pgo_spec_text.specs.Cutting.{added, header}
use Rattle.pgo_spec_text.proofs.Adding.{column_of, column_further, offset_further, added_sound, added_complete}
use Rattle.pgo_spec_text.proofs.Bodies.{passed_over, not_inside}

-- the head is the tokens before, and then those of a part that ends at the algorithm's comment
pub record HeaderRead (limit : ℕ) (before : List ℕ) (done : List Lexeme) (bs : List ℕ) (h : Head) : Type 0 where
  pub part : List ℕ
  pub rest : List ℕ
  pub more : List Lexeme
  pub split : bs ≡ part ++ rest
  pub cut : Cut HasNoAlgorithm before part rest more
  pub tokens : h.tokens ≡ done ++ more
  pub at : h.at ≡ length (before ++ part)
  pub comment : is_some (inside rest) ≡ true
  pub allowed : AllAllowed more
  pub few : length h.tokens ≤ limit

-- the function behind a piece
abbrev Behind : (limit n : ℕ) → (before piece rest : List ℕ) → List Lexeme → Option Head
Behind limit n before piece rest done = header limit n (columns_behind (column_of before) (take (length piece) (piece ++ rest))) (length before + length piece) done (drop (length piece) (piece ++ rest))

behind_is : (limit n : ℕ) (before piece rest : List ℕ) (done : List Lexeme) → Behind limit n before piece rest done ≡ header limit n (column_of (before ++ piece)) (length (before ++ piece)) done rest
behind_is limit n before piece rest done =
    (λ i. header limit n (columns_behind (column_of before) (take-append_seam piece rest i)) (offset_further before piece i) done (drop-append_seam piece rest i))
    ∙ (λ i. header limit n (column_further before piece i) (length (before ++ piece)) done rest)

-- ---- what is given is right

header_ends : (limit : ℕ) (before bs : List ℕ) (done : List Lexeme) (h : Head) → length done ≤ limit → is_some (inside bs) ≡ true → Some (record { tokens = done; at = length before }) ≡ Some h → HeaderRead limit before done bs h
header_ends limit before bs done h few there e =
    let same : record { tokens = done; at = length before } ≡ h = cc in
    let tokens : done ≡ h.tokens = ap (λ x. x.tokens) same in
    let at : length before ≡ h.at = ap (λ x. x.at) same in
    record {
      part = [];
      rest = bs;
      more = [];
      split = refl;
      cut = s.end;
      tokens = sym tokens ∙ sym (append-nil done);
      at = sym at ∙ ap length (sym (append-nil before));
      comment = there;
      allowed = tt;
      few = omega (arith, few, ap length tokens);
    }

pass_piece : (limit : ℕ) (before piece rest : List ℕ) (done : List Lexeme) (h : Head) → IsPiece piece rest None → HasNoAlgorithm piece → HeaderRead limit (before ++ piece) done rest h → HeaderRead limit before done (piece ++ rest) h
pass_piece limit before piece rest done h is clean r = record {
  part = piece ++ r.part;
  rest = r.rest;
  more = r.more;
  split = (λ i. piece ++ r.split i) ∙ sym (append_assoc piece r.part r.rest);
  cut = s.pass piece (subst (λ x. IsPiece piece x None) r.split is) clean r.cut;
  tokens = r.tokens;
  at = r.at ∙ ap length (append_assoc before piece r.part);
  comment = r.comment;
  allowed = r.allowed;
  few = r.few;
}

token_piece : (limit : ℕ) (before piece rest : List ℕ) (token : Token) (done : List Lexeme) (h : Head) → IsPiece piece rest (Some token) → s.is_allowed token ≡ true → HeaderRead limit (before ++ piece) (done ++ lexeme token before piece ∷ []) rest h → HeaderRead limit before done (piece ++ rest) h
token_piece limit before piece rest token done h is ok r = record {
  part = piece ++ r.part;
  rest = r.rest;
  more = lexeme token before piece ∷ r.more;
  split = (λ i. piece ++ r.split i) ∙ sym (append_assoc piece r.part r.rest);
  cut = s.token piece (subst (λ x. IsPiece piece x (Some token)) r.split is) r.cut;
  tokens = r.tokens ∙ append_assoc done (lexeme token before piece ∷ []) r.more;
  at = r.at ∙ ap length (append_assoc before piece r.part);
  comment = r.comment;
  allowed = (ok, r.allowed);
  few = r.few;
}

abbrev Reads : (limit n : ℕ) → Head → Type 0
Reads limit n h = (before bs : List ℕ) (done : List Lexeme) → length done ≤ limit → header limit n (column_of before) (length before) done bs ≡ Some h → HeaderRead limit before done bs h

at_piece : (limit n : ℕ) (before piece rest : List ℕ) (done : List Lexeme) (h : Head) (o : Option Token) → length done ≤ limit → IsPiece piece rest o → is_some (inside (piece ++ rest)) ≡ false → Reads limit n h
    → and_then (added limit (column_of before) (length before) done (length piece) o) (λ more. Behind limit n before piece rest more) ≡ Some h → HeaderRead limit before done (piece ++ rest) h
at_piece limit n before piece rest done h None few is none ih e = pass_piece limit before piece rest done h is (passed_over is none) (ih (before ++ piece) rest done few (sym (behind_is limit n before piece rest done) ∙ e))
at_piece limit n before piece rest done h (Some token) few is none ih e = go (added limit (column_of before) (length before) done (length piece) (Some token)) refl e
  where
    go : (o : Option (List Lexeme)) → added limit (column_of before) (length before) done (length piece) (Some token) ≡ o → and_then o (λ more. Behind limit n before piece rest more) ≡ Some h → HeaderRead limit before done (piece ++ rest) h
    go None got e = no_some h _ e
    go (Some more) got e =
        let a = added_sound limit before piece token done more got in
        let one = lexeme token before piece in
        let long = length-append done (one ∷ []) in
        token_piece limit before piece rest token done h is a.allowed (ih (before ++ piece) rest (done ++ one ∷ []) (omega (arith, long, a.room))
        (sym (behind_is limit n before piece rest (done ++ one ∷ [])) ∙ (λ i. Behind limit n before piece rest (sym a.is i)) ∙ e))

by_piece : (limit n : ℕ) (before bs : List ℕ) (done : List Lexeme) (h : Head) (o : Option Piece) → length done ≤ limit → first_piece bs ≡ o → is_some (inside bs) ≡ false → Reads limit n h
    → and_then o (λ p. and_then (added limit (column_of before) (length before) done p.length p.token) (λ more. header limit n (columns_behind (column_of before) (take p.length bs)) (length before + p.length) more (drop p.length bs))) ≡ Some h
    → HeaderRead limit before done bs h
by_piece limit n before bs done h None few is none ih e = no_some h _ e
by_piece limit n before bs done h (Some p) few is none ih e =
    let b = piece_sound bs p is in
    let P : ℕ → List ℕ → Type 0 = λ k x. and_then (added limit (column_of before) (length before) done k p.token) (λ more. header limit n (columns_behind (column_of before) (take k x)) (length before + k) more (drop k x)) ≡ Some h in
    let e2 : P (length b.front) (b.front ++ b.rest) = subst (λ k. P k (b.front ++ b.rest)) (sym b.long) (subst (λ x. P p.length x) b.split e) in
    subst (λ x. HeaderRead limit before done x h) (sym b.split)
    (at_piece limit n before b.front b.rest done h p.token few b.is (ap (λ x. is_some (inside x)) (sym b.split) ∙ none) ih e2)

pub header_sound : (limit n : ℕ) (h : Head) → Reads limit n h
unfolding header
header_sound limit zero h before bs done few e = no_some h _ e
header_sound limit (suc n) h before bs done few e =
    if_some (is_some (inside bs)) _ _ h (HeaderRead limit before done bs h) e (λ t e. header_ends limit before bs done h few t e)
    (λ f e. by_piece limit n before bs done h (first_piece bs) few refl f (λ before bs done few e. header_sound limit n h before bs done few e) e)

-- ---- what is right is given

over_piece : (limit n : ℕ) (before piece rest : List ℕ) (done more : List Lexeme) (o : Option Token) → IsPiece piece rest o → is_some (inside (piece ++ rest)) ≡ false → added limit (column_of before) (length before) done (length piece) o ≡ Some more
    → header limit (suc n) (column_of before) (length before) done (piece ++ rest) ≡ header limit n (column_of (before ++ piece)) (length (before ++ piece)) more rest
unfolding header
over_piece limit n before piece rest done more o is none e =
    cond_false (is_some (inside (piece ++ rest))) _ _ none
    ∙ ap (λ t. and_then t (λ p. and_then (added limit (column_of before) (length before) done p.length p.token) (λ more. header limit n (columns_behind (column_of before) (take p.length (piece ++ rest))) (length before + p.length) more (drop p.length (piece ++ rest))))) (piece_found is).is
    ∙ ap (λ t. and_then t (λ more. Behind limit n before piece rest more)) e
    ∙ behind_is limit n before piece rest more

at_comment : (limit n : ℕ) (before rest : List ℕ) (done : List Lexeme) → is_some (inside rest) ≡ true → header limit (suc n) (column_of before) (length before) done rest ≡ Some (record { tokens = done; at = length before })
unfolding header
at_comment limit n before rest done there = cond_true (is_some (inside rest)) _ _ there

-- the head at another place and with other tokens
head_is : (tokens more : List Lexeme) (at place : List ℕ) → tokens ≡ more → at ≡ place → let a : Option Head = Some (record { tokens = tokens; at = length at }) in a ≡ Some (record { tokens = more; at = length place })
head_is tokens more at place e f = λ i. Some (record { tokens = e i; at = length (f i) })

pub header_complete : {before part rest : List ℕ} {more : List Lexeme} → Cut HasNoAlgorithm before part rest more → (limit n : ℕ) (done : List Lexeme) → is_some (inside rest) ≡ true → AllAllowed more → length part < n → length done + length more ≤ limit
    → header limit n (column_of before) (length before) done (part ++ rest) ≡ Some (record { tokens = done ++ more; at = length (before ++ part) })
header_complete (s.end {before} {rest}) limit zero done there ok h few = absurd (omega arith)
header_complete (s.end {before} {rest}) limit (suc n) done there ok h few =
    at_comment limit n before rest done there ∙ head_is done (done ++ []) before (before ++ []) (sym (append-nil done)) (sym (append-nil before))
header_complete (s.pass {before} piece {part} {rest} {ls} is clean d) limit zero done there ok h few = absurd (omega arith)
header_complete (s.pass {before} piece {part} {rest} {ls} is clean d) limit (suc n) done there ok h few =
    let some = (piece_found is).some in
    let long = length-append piece part in
    ap (header limit (suc n) (column_of before) (length before) done) (append_assoc piece part rest)
    ∙ over_piece limit n before piece (part ++ rest) done done None is (not_inside piece (part ++ rest) None is (λ _. clean)) refl
    ∙ header_complete d limit n done there ok (omega (arith, some, long)) few
    ∙ head_is (done ++ ls) (done ++ ls) ((before ++ piece) ++ part) (before ++ (piece ++ part)) refl (append_assoc before piece part)
header_complete (s.token {before} piece {part} {rest} {ls} {token} is d) limit zero done there ok h few = absurd (omega arith)
header_complete (s.token {before} piece {part} {rest} {ls} {token} is d) limit (suc n) done there ok h few =
    let some = (piece_found is).some in
    let long = length-append piece part in
    let one = lexeme token before piece in
    let longer = length-append done (one ∷ []) in
    ap (header limit (suc n) (column_of before) (length before) done) (append_assoc piece part rest)
    ∙ over_piece limit n before piece (part ++ rest) done (done ++ one ∷ []) (Some token) is (not_inside piece (part ++ rest) (Some token) is (λ e. absurd (cc))) (added_complete limit before piece token done ok.0 (omega arith))
    ∙ header_complete d limit n (done ++ one ∷ []) there ok.1 (omega (arith, some, long)) (omega (arith, longer))
    ∙ head_is ((done ++ one ∷ []) ++ ls) (done ++ one ∷ ls) ((before ++ piece) ++ part) (before ++ (piece ++ part)) (append_assoc done (one ∷ []) ls) (append_assoc before piece part)
