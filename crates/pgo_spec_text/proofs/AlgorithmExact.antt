-- The tokens that the function gives for an algorithm are those up to the `}` that matches its first `{`.
use Rattle.std.proofs.Common.{◌≡◌, ◌≤◌, ◌<◌, ◌+◌, ◌-◌, ℕ, zero, suc, Bool, true, false, ◌&&◌, nat_eq, cond, List, [], ◌∷◌, ◌++◌, length, take, drop, Option, Some, None, refl, sym, ◌∙◌, ap, subst, arith}
use Rattle.std.proofs.Math.Seq.{take-append_seam, drop-append_seam}
use Rattle.std.proofs.lemmas.Bool.{and_parts, eqb-true, eq-eqb}
use Rattle.std.proofs.lemmas.List.{append_assoc, append-nil, length-append}
use Rattle.pgo_lexer.specs.declared.token.Token.{Token}
use Rattle.pgo_lexer.specs.declared.token.Token.TheVariants as t
use Rattle.pgo_lexer.specs.declared.symbol.Symbol.TheVariants as y
use Rattle.pgo_lexer.specs.declared.token.Lexeme.{Lexeme}
use Rattle.pgo_lexer.specs.declared.piece.Piece.{Piece}
use Rattle.pgo_lexer.specs.Lexemes.{IsPiece, columns_behind}
use Rattle.pgo_lexer.specs.Pieces.{first_piece}
use Rattle.pgo_lexer.specs.Lexing.{and_then}
use Rattle.pgo_lexer.proofs.Runs.{if_some, no_some, cond_true, cond_false}
use Rattle.pgo_lexer.proofs.PieceSound.{piece_sound}
use Rattle.pgo_lexer.proofs.PieceComplete.{piece_found}
use Rattle.pgo_spec_text.specs.SpecText.{Cut, Anything, AllAllowed, ClosesBraces, EndsWithBrace, is_open_brace, is_close_brace, lexeme}
use Rattle.pgo_spec_text.specs.SpecText as s
use Rattle.pgo_spec_text.specs.Cutting.{added, depth_behind, is_last, algorithm}
use Rattle.pgo_spec_text.proofs.Adding.{column_of, column_further, offset_further, added_sound, added_complete}

-- ---- braces

-- the last of these tokens is the `}` that matches the first `{`, where so many are open before them
pub data Ends : (depth : ℕ) → List Lexeme → Type 0 where
  outside : {ls : List Lexeme} → EndsWithBrace ls → Ends zero ls
  inside : {d : ℕ} {ls : List Lexeme} → ClosesBraces (suc d) ls → Ends (suc d) ls

one_brace : (token : Token) → is_open_brace token ≡ true → is_close_brace token ≡ false
one_brace (t.Symbol (y.Open k)) e = refl
one_brace _ e = cc

one_open : (token : Token) → is_close_brace token ≡ true → is_open_brace token ≡ false
one_open (t.Symbol (y.Close k)) e = refl
one_open _ e = cc

last_ends : (d : ℕ) (l : Lexeme) → is_last d (Some l.token) ≡ true → Ends d (l ∷ [])
last_ends d l e =
    let q = and_parts (nat_eq d 1) (is_close_brace l.token) e in
    subst (λ n. Ends n (l ∷ [])) (sym (eqb-true d 1 q.0)) (inside (s.close_one q.1 s.closed))

open_ends : (d : ℕ) (l : Lexeme) (ls : List Lexeme) → is_open_brace l.token ≡ true → Ends (d + 1) ls → Ends d (l ∷ ls)
open_ends d l ls e h = go d (d + 1) refl h
  where
    go : (d n : ℕ) → n ≡ d + 1 → Ends n ls → Ends d (l ∷ ls)
    go d zero q h = absurd (omega arith)
    go zero (suc n) q (inside h) = outside (s.first e (let same : n ≡ 0 = omega arith in subst (λ k. ClosesBraces (suc k) ls) same h))
    go (suc d) (suc n) q (inside h) = inside (s.open_one e (let same : n ≡ suc d = omega arith in subst (λ k. ClosesBraces (suc k) ls) same h))

close_ends : (d : ℕ) (l : Lexeme) (ls : List Lexeme) → is_open_brace l.token ≡ false → is_close_brace l.token ≡ true → nat_eq d 1 ≡ false → Ends (d - 1) ls → Ends d (l ∷ ls)
close_ends zero l ls e k f h = go (zero - 1) refl h
  where
    go : (n : ℕ) → n ≡ zero - 1 → Ends n ls → Ends zero (l ∷ ls)
    go zero q (outside h) = outside (s.before e h)
    go (suc n) q h = absurd (omega arith)
close_ends (suc d) l ls e k f h = go (suc d - 1) refl h
  where
    go : (n : ℕ) → n ≡ suc d - 1 → Ends n ls → Ends (suc d) (l ∷ ls)
    go zero q h = absurd (let same : suc d ≡ 1 = omega arith in let t = eq-eqb (suc d) 1 same in cc)
    go (suc n) q (inside h) = inside (s.close_one k (let same : suc n ≡ d = omega arith in subst (λ k. ClosesBraces k ls) same h))

other_ends : (d : ℕ) (l : Lexeme) (ls : List Lexeme) → is_open_brace l.token ≡ false → is_close_brace l.token ≡ false → Ends d ls → Ends d (l ∷ ls)
other_ends d l ls e k (outside h) = outside (s.before e h)
other_ends d l ls e k (inside h) = inside (s.other e k h)

-- a token that isn't the last, before the others
pub more_ends : (d : ℕ) (l : Lexeme) (ls : List Lexeme) → is_last d (Some l.token) ≡ false → Ends (depth_behind d (Some l.token)) ls → Ends d (l ∷ ls)
more_ends d l ls e h = go (is_open_brace l.token) refl (is_close_brace l.token) refl e h
  where
    go : (o : Bool) → is_open_brace l.token ≡ o → (k : Bool) → is_close_brace l.token ≡ k → (nat_eq d 1 && k) ≡ false → Ends (cond o (d + 1) (cond k (d - 1) d)) ls → Ends d (l ∷ ls)
    go true o k kis e h = open_ends d l ls o h
    go false o true kis e h = close_ends d l ls o kis (first (nat_eq d 1) e) h
      where
        first : (b : Bool) → (b && true) ≡ false → b ≡ false
        first true h = h
        first false h = h
    go false o false kis e h = other_ends d l ls o kis h

-- what the first of these tokens is
pub data First (d : ℕ) (l : Lexeme) (ls : List Lexeme) : Type 0 where
  is_end : is_last d (Some l.token) ≡ true → ls ≡ [] → First d l ls
  goes_on : is_last d (Some l.token) ≡ false → Ends (depth_behind d (Some l.token)) ls → First d l ls

depth_open : (d : ℕ) (token : Token) → is_open_brace token ≡ true → depth_behind d (Some token) ≡ d + 1
depth_open d token e = λ i. cond (e i) (d + 1) (cond (is_close_brace token) (d - 1) d)

depth_close : (d : ℕ) (token : Token) → is_close_brace token ≡ true → depth_behind d (Some token) ≡ d - 1
depth_close d token e = (λ i. cond (one_open token e i) (d + 1) (cond (is_close_brace token) (d - 1) d)) ∙ (λ i. cond (e i) (d - 1) d)

depth_other : (d : ℕ) (token : Token) → is_open_brace token ≡ false → is_close_brace token ≡ false → depth_behind d (Some token) ≡ d
depth_other d token e k = (λ i. cond (e i) (d + 1) (cond (is_close_brace token) (d - 1) d)) ∙ (λ i. cond (k i) (d - 1) d)

not_last : (d : ℕ) (token : Token) → is_close_brace token ≡ false → is_last d (Some token) ≡ false
not_last d token k = go (nat_eq d 1)
  where
    go : (b : Bool) → (b && is_close_brace token) ≡ false
    go true = k
    go false = refl

first_of_outside : (l : Lexeme) (ls : List Lexeme) → EndsWithBrace (l ∷ ls) → First 0 l ls
first_of_outside l ls (s.first e h) = goes_on refl (subst (λ n. Ends n ls) (sym (depth_open 0 l.token e)) (inside h))
first_of_outside l ls (s.before e h) = goes_on refl (subst (λ n. Ends n ls) (sym (same (is_close_brace l.token) refl)) (outside h))
  where
    same : (k : Bool) → is_close_brace l.token ≡ k → depth_behind 0 (Some l.token) ≡ 0
    same true k = depth_close 0 l.token k
    same false k = depth_other 0 l.token e k

closes_none : (ls : List Lexeme) → ClosesBraces zero ls → ls ≡ []
closes_none [] d = refl
closes_none (l ∷ ls) d = elim d [ ]

first_of_inside : (d : ℕ) (l : Lexeme) (ls : List Lexeme) → ClosesBraces (suc d) (l ∷ ls) → First (suc d) l ls
first_of_inside d l ls (s.open_one e h) = goes_on (not_last (suc d) l.token (one_brace l.token e)) (subst (λ n. Ends n ls) (sym (depth_open (suc d) l.token e ∙ omega arith)) (inside h))
first_of_inside zero l ls (s.close_one k h) = is_end k (closes_none ls h)
first_of_inside (suc d) l ls (s.close_one k h) = goes_on (two (nat_eq (suc (suc d)) 1) refl) (subst (λ n. Ends n ls) (sym (depth_close (suc (suc d)) l.token k ∙ omega arith)) (inside h))
  where
    two : (b : Bool) → nat_eq (suc (suc d)) 1 ≡ b → (b && is_close_brace l.token) ≡ false
    two true e = absurd (let q = eqb-true (suc (suc d)) 1 e in omega arith)
    two false e = refl
first_of_inside d l ls (s.other e k h) = goes_on (not_last (suc d) l.token k) (subst (λ n. Ends n ls) (sym (depth_other (suc d) l.token e k)) (inside h))

pub first_of_ends : (d : ℕ) (l : Lexeme) (ls : List Lexeme) → Ends d (l ∷ ls) → First d l ls
first_of_ends d l ls (outside h) = first_of_outside l ls h
first_of_ends d l ls (inside {d = n} h) = first_of_inside n l ls h

pub no_ends : (d : ℕ) → Ends d [] → ⊥
no_ends d (outside h) = elim h [ ]
no_ends d (inside h) = elim h [ ]

-- ---- what is given is right

-- the tokens are those before, and then those of a part up to its last `}`
pub record AlgorithmRead (limit depth : ℕ) (before : List ℕ) (done : List Lexeme) (bs : List ℕ) (all : List Lexeme) : Type 0 where
  pub part : List ℕ
  pub rest : List ℕ
  pub more : List Lexeme
  pub split : bs ≡ part ++ rest
  pub cut : Cut Anything before part rest more
  pub tokens : all ≡ done ++ more
  pub ends : Ends depth more
  pub allowed : AllAllowed more
  pub few : length all ≤ limit

-- the function behind a piece
abbrev Behind : (limit n depth : ℕ) → (before piece rest : List ℕ) → List Lexeme → Option (List Lexeme)
Behind limit n depth before piece rest done = algorithm limit n depth (columns_behind (column_of before) (take (length piece) (piece ++ rest))) (length before + length piece) done (drop (length piece) (piece ++ rest))

behind_is : (limit n depth : ℕ) (before piece rest : List ℕ) (done : List Lexeme) → Behind limit n depth before piece rest done ≡ algorithm limit n depth (column_of (before ++ piece)) (length (before ++ piece)) done rest
behind_is limit n depth before piece rest done =
    (λ i. algorithm limit n depth (columns_behind (column_of before) (take-append_seam piece rest i)) (offset_further before piece i) done (drop-append_seam piece rest i))
    ∙ (λ i. algorithm limit n depth (column_further before piece i) (length (before ++ piece)) done rest)

pass_piece : (limit depth : ℕ) (before piece rest : List ℕ) (done all : List Lexeme) → IsPiece piece rest None → AlgorithmRead limit depth (before ++ piece) done rest all → AlgorithmRead limit depth before done (piece ++ rest) all
pass_piece limit depth before piece rest done all is r = record {
  part = piece ++ r.part;
  rest = r.rest;
  more = r.more;
  split = (λ i. piece ++ r.split i) ∙ sym (append_assoc piece r.part r.rest);
  cut = s.pass piece (subst (λ x. IsPiece piece x None) r.split is) tt r.cut;
  tokens = r.tokens;
  ends = r.ends;
  allowed = r.allowed;
  few = r.few;
}

token_piece : (limit depth : ℕ) (before piece rest : List ℕ) (token : Token) (done all : List Lexeme) → IsPiece piece rest (Some token) → s.is_allowed token ≡ true → is_last depth (Some token) ≡ false
    → AlgorithmRead limit (depth_behind depth (Some token)) (before ++ piece) (done ++ lexeme token before piece ∷ []) rest all → AlgorithmRead limit depth before done (piece ++ rest) all
token_piece limit depth before piece rest token done all is ok later r = record {
  part = piece ++ r.part;
  rest = r.rest;
  more = lexeme token before piece ∷ r.more;
  split = (λ i. piece ++ r.split i) ∙ sym (append_assoc piece r.part r.rest);
  cut = s.token piece (subst (λ x. IsPiece piece x (Some token)) r.split is) r.cut;
  tokens = r.tokens ∙ append_assoc done (lexeme token before piece ∷ []) r.more;
  ends = more_ends depth (lexeme token before piece) r.more later r.ends;
  allowed = (ok, r.allowed);
  few = r.few;
}

last_piece : (limit depth : ℕ) (before piece rest : List ℕ) (token : Token) (done all : List Lexeme) → IsPiece piece rest (Some token) → s.is_allowed token ≡ true → length done < limit → is_last depth (Some token) ≡ true
    → Some (done ++ lexeme token before piece ∷ []) ≡ Some all → AlgorithmRead limit depth before done (piece ++ rest) all
last_piece limit depth before piece rest token done all is ok room e same =
    let one = lexeme token before piece in
    let all_is : done ++ one ∷ [] ≡ all = cc in
    let long = length-append done (one ∷ []) in
    record {
      part = piece ++ [];
      rest = rest;
      more = one ∷ [];
      split = (λ i. sym (append-nil piece) i ++ rest);
      cut = s.token piece is s.end;
      tokens = sym all_is;
      ends = last_ends depth one e;
      allowed = (ok, tt);
      few = omega (arith, long, room, ap length all_is);
    }

abbrev Reads : (limit n : ℕ) → List Lexeme → Type 0
Reads limit n all = (depth : ℕ) (before bs : List ℕ) (done : List Lexeme) → length done ≤ limit → algorithm limit n depth (column_of before) (length before) done bs ≡ Some all → AlgorithmRead limit depth before done bs all

-- what comes behind a piece
abbrev Next : (limit n depth : ℕ) → (before piece rest : List ℕ) → Option Token → List Lexeme → Option (List Lexeme)
Next limit n depth before piece rest o all = cond (is_last depth o) (Some all) (Behind limit n (depth_behind depth o) before piece rest all)

at_piece : (limit n depth : ℕ) (before piece rest : List ℕ) (done all : List Lexeme) (o : Option Token) → length done ≤ limit → IsPiece piece rest o → Reads limit n all
    → and_then (added limit (column_of before) (length before) done (length piece) o) (Next limit n depth before piece rest o) ≡ Some all → AlgorithmRead limit depth before done (piece ++ rest) all
at_piece limit n depth before piece rest done all None few is ih e = pass_piece limit depth before piece rest done all is (ih depth (before ++ piece) rest done few (sym (behind_is limit n depth before piece rest done) ∙ e))
at_piece limit n depth before piece rest done all (Some token) few is ih e = go (added limit (column_of before) (length before) done (length piece) (Some token)) refl e
  where
    go : (o : Option (List Lexeme)) → added limit (column_of before) (length before) done (length piece) (Some token) ≡ o → and_then o (Next limit n depth before piece rest (Some token)) ≡ Some all → AlgorithmRead limit depth before done (piece ++ rest) all
    go None got e = no_some all _ e
    go (Some more) got e =
        let a = added_sound limit before piece token done more got in
        let long = length-append done (lexeme token before piece ∷ []) in
        if_some (is_last depth (Some token)) _ _ all (AlgorithmRead limit depth before done (piece ++ rest) all) e
        (λ t e. last_piece limit depth before piece rest token done all is a.allowed a.room t (ap Some (sym a.is) ∙ e))
        (λ f e. token_piece limit depth before piece rest token done all is a.allowed f
        (ih (depth_behind depth (Some token)) (before ++ piece) rest (done ++ lexeme token before piece ∷ []) (omega (arith, long, a.room))
        (sym (behind_is limit n (depth_behind depth (Some token)) before piece rest (done ++ lexeme token before piece ∷ [])) ∙ (λ i. Behind limit n (depth_behind depth (Some token)) before piece rest (sym a.is i)) ∙ e)))

by_piece : (limit n depth : ℕ) (before bs : List ℕ) (done all : List Lexeme) (o : Option Piece) → length done ≤ limit → first_piece bs ≡ o → Reads limit n all
    → and_then o (λ p. and_then (added limit (column_of before) (length before) done p.length p.token) (λ more. cond (is_last depth p.token) (Some more) (algorithm limit n (depth_behind depth p.token) (columns_behind (column_of before) (take p.length bs)) (length before + p.length) more (drop p.length bs)))) ≡ Some all
    → AlgorithmRead limit depth before done bs all
by_piece limit n depth before bs done all None few is ih e = no_some all _ e
by_piece limit n depth before bs done all (Some p) few is ih e =
    let b = piece_sound bs p is in
    let P : ℕ → List ℕ → Type 0 = λ k x. and_then (added limit (column_of before) (length before) done k p.token) (λ more. cond (is_last depth p.token) (Some more) (algorithm limit n (depth_behind depth p.token) (columns_behind (column_of before) (take k x)) (length before + k) more (drop k x))) ≡ Some all in
    let e2 : P (length b.front) (b.front ++ b.rest) = subst (λ k. P k (b.front ++ b.rest)) (sym b.long) (subst (λ x. P p.length x) b.split e) in
    subst (λ x. AlgorithmRead limit depth before done x all) (sym b.split) (at_piece limit n depth before b.front b.rest done all p.token few b.is ih e2)

pub algorithm_sound : (limit n : ℕ) (all : List Lexeme) → Reads limit n all
unfolding algorithm
algorithm_sound limit zero all depth before bs done few e = no_some all _ e
algorithm_sound limit (suc n) all depth before bs done few e = by_piece limit n depth before bs done all (first_piece bs) few refl (λ depth before bs done few e. algorithm_sound limit n all depth before bs done few e) e

-- ---- what is right is given

over_piece : (limit n depth : ℕ) (before piece rest : List ℕ) (done all : List Lexeme) (o : Option Token) → IsPiece piece rest o → added limit (column_of before) (length before) done (length piece) o ≡ Some all
    → algorithm limit (suc n) depth (column_of before) (length before) done (piece ++ rest) ≡ Next limit n depth before piece rest o all
unfolding algorithm
over_piece limit n depth before piece rest done all o is e =
    ap (λ t. and_then t (λ p. and_then (added limit (column_of before) (length before) done p.length p.token) (λ more. cond (is_last depth p.token) (Some more) (algorithm limit n (depth_behind depth p.token) (columns_behind (column_of before) (take p.length (piece ++ rest))) (length before + p.length) more (drop p.length (piece ++ rest)))))) (piece_found is).is
    ∙ ap (λ t. and_then t (Next limit n depth before piece rest o)) e

behind_token : (limit n depth : ℕ) (before piece rest : List ℕ) (token : Token) (done ls : List Lexeme) → First depth (lexeme token before piece) ls
    → (Ends (depth_behind depth (Some token)) ls → algorithm limit n (depth_behind depth (Some token)) (column_of (before ++ piece)) (length (before ++ piece)) (done ++ lexeme token before piece ∷ []) rest ≡ Some ((done ++ lexeme token before piece ∷ []) ++ ls))
    → Next limit n depth before piece rest (Some token) (done ++ lexeme token before piece ∷ []) ≡ Some (done ++ lexeme token before piece ∷ ls)
behind_token limit n depth before piece rest token done ls (is_end e none) ih =
    cond_true (is_last depth (Some token)) _ _ e ∙ (λ i. Some (done ++ lexeme token before piece ∷ sym none i))
behind_token limit n depth before piece rest token done ls (goes_on e ends) ih =
    cond_false (is_last depth (Some token)) _ _ e ∙ behind_is limit n (depth_behind depth (Some token)) before piece rest (done ++ lexeme token before piece ∷ [])
    ∙ ih ends ∙ ap Some (append_assoc done (lexeme token before piece ∷ []) ls)

pub algorithm_complete : {before part rest : List ℕ} {more : List Lexeme} → Cut Anything before part rest more → (limit n depth : ℕ) (done : List Lexeme) → Ends depth more → AllAllowed more → length part ≤ n → length done + length more ≤ limit
    → algorithm limit n depth (column_of before) (length before) done (part ++ rest) ≡ Some (done ++ more)
algorithm_complete (s.end {before} {rest}) limit n depth done ends ok h few = absurd (no_ends depth ends)
algorithm_complete (s.pass {before} piece {part} {rest} {ls} is clean d) limit zero depth done ends ok h few = absurd (let some = (piece_found is).some in omega (arith, some, length-append piece part))
algorithm_complete (s.pass {before} piece {part} {rest} {ls} is clean d) limit (suc n) depth done ends ok h few =
    let some = (piece_found is).some in
    let long = length-append piece part in
    ap (algorithm limit (suc n) depth (column_of before) (length before) done) (append_assoc piece part rest)
    ∙ over_piece limit n depth before piece (part ++ rest) done done None is refl
    ∙ behind_is limit n depth before piece (part ++ rest) done
    ∙ algorithm_complete d limit n depth done ends ok (omega (arith, some, long)) few
algorithm_complete (s.token {before} piece {part} {rest} {ls} {token} is d) limit zero depth done ends ok h few = absurd (let some = (piece_found is).some in omega (arith, some, length-append piece part))
algorithm_complete (s.token {before} piece {part} {rest} {ls} {token} is d) limit (suc n) depth done ends ok h few =
    let some = (piece_found is).some in
    let long = length-append piece part in
    let one = lexeme token before piece in
    let longer = length-append done (one ∷ []) in
    ap (algorithm limit (suc n) depth (column_of before) (length before) done) (append_assoc piece part rest)
    ∙ over_piece limit n depth before piece (part ++ rest) done (done ++ one ∷ []) (Some token) is (added_complete limit before piece token done ok.0 (omega arith))
    ∙ behind_token limit n depth before piece (part ++ rest) token done ls (first_of_ends depth one ls ends)
    (λ e. algorithm_complete d limit n (depth_behind depth (Some token)) (done ++ one ∷ []) e ok.1 (omega (arith, some, long)) (omega (arith, longer)))
