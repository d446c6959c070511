-- The comment with the algorithm, and its body.
use Rattle.std.proofs.Common.{◌≡◌, ◌≤◌, ◌+◌, ◌-◌, ℕ, zero, suc, true, false, nat_eq, Option, Some, None, Bor, IfSome, is_some, List, [], ◌∷◌, ◌++◌, length, take, drop, option_map, refl, sym, ◌∙◌, ap, subst, arith}
use Rattle.std.proofs.Math.Seq.{take-append_seam}
use Rattle.std.proofs.lemmas.Bool.{and_parts, eqb-true}
use Rattle.std.proofs.lemmas.List.{length-append, length-drop}
use Rattle.pgo_lexer.specs.declared.token.Token.{Token}
use Rattle.pgo_lexer.specs.Lexemes.{Closes, IsPiece, opens}
use Rattle.pgo_lexer.specs.Lexemes as c
use Rattle.pgo_lexer.specs.Pieces.{behind_comment, piece_of, first_piece}
use Rattle.pgo_lexer.proofs.Runs.{if_some, no_some}
use Rattle.pgo_lexer.proofs.Closing.{closing_sound, closing_complete}
use Rattle.pgo_lexer.proofs.PieceComplete.{piece_found}
use Rattle.pgo_spec_text.specs.SpecText.{BeginsWith, Holds, IsComment, IsAlgorithmComment, HasNoAlgorithm, mpcal}
use Rattle.pgo_spec_text.specs.Searching.{mpcal_from, is_mpcal_at, stays, behind, body, body_by, inside_by, inside}
use Rattle.pgo_spec_text.proofs.Firsts.{found_first, first_found, none_first}
use Rattle.pgo_spec_text.proofs.Words.{AtMpcal, tells_mpcal}

-- what stands behind a comment is no longer than its text and that
pub behind_within : (n : ℕ) (bs rest : List ℕ) → behind_comment n bs ≡ Some rest → length rest ≤ length bs
behind_within n bs rest e =
    let d = closing_sound n bs rest e in
    omega (arith, ap length d.split, length-append d.front rest)

pub comment_within : (r : Option (Bor (List ℕ))) (bytes tail : List ℕ) → option_map (λ s. s.now) r ≡ behind_comment 1 tail → tail ≡ drop 2 bytes → 2 ≤ length bytes → IfSome r (λ s. length s.now + 2 ≤ length bytes)
comment_within None bytes tail e same two = tt
comment_within (Some s) bytes tail e same two =
    let small = behind_within 1 tail s.now (sym e) in
    omega (arith, small, ap length same, length-drop 2 bytes)

-- ---- the last two bytes of a comment

pub record Ended (bytes : List ℕ) : Type 0 where
  pub front : List ℕ
  pub both : bytes ≡ front ++ (42 ∷ 41 ∷ [])

end_further : (b : ℕ) (bs : List ℕ) → Ended bs → Ended (b ∷ bs)
end_further b bs h = record { front = b ∷ h.front; both = ap (λ x. b ∷ x) h.both }

-- the text of open comments ends with `*)`
ends_closed : {n : ℕ} {bs : List ℕ} → Closes n bs → (m : ℕ) → n ≡ suc m → Ended bs
ends_closed c.closed m e = cc
ends_closed (c.open_one {n} {bs} d) m e = end_further 40 (42 ∷ bs) (end_further 42 bs (ends_closed d (suc n) refl))
ends_closed (c.close_one {n} {bs} d) m e = last n bs d (λ k e. ends_closed d k e)
  where
    last : (n : ℕ) (bs : List ℕ) → Closes n bs → ((k : ℕ) → n ≡ suc k → Ended bs) → Ended (42 ∷ 41 ∷ bs)
    last zero bs d ih = nothing bs d
      where
        nothing : (bs : List ℕ) → Closes zero bs → Ended (42 ∷ 41 ∷ bs)
        nothing [] d = record { front = []; both = refl }
        nothing (b ∷ bs) d = elim d [ ]
    last (suc n) bs d ih = end_further 42 (41 ∷ bs) (end_further 41 bs (ih n refl))
ends_closed (c.other {n} {b} {bs} e k d) m q = end_further b bs (ends_closed d n refl)

comment_ended : (bytes : List ℕ) → IsComment bytes → Ended bytes
comment_ended bytes h =
    let d = end_further 40 (42 ∷ h.text) (end_further 42 h.text (ends_closed h.closes 0 refl)) in
    record { front = d.front; both = h.both ∙ d.both }

-- the bytes behind a `--mpcal` at the front end with `*)`
here_split : (front tail : List ℕ) → front ++ (42 ∷ 41 ∷ []) ≡ mpcal ++ tail → Ended tail
here_split [] tail e = cc
here_split (a ∷ []) tail e = cc
here_split (a ∷ (b ∷ [])) tail e = cc
here_split (a ∷ (b ∷ (d ∷ []))) tail e = cc
here_split (a ∷ (b ∷ (d ∷ (f ∷ [])))) tail e = cc
here_split (a ∷ (b ∷ (d ∷ (f ∷ (g ∷ []))))) tail e = absurd (let q : ◌≡◌ {A = ℕ} 42 97 = cc in omega (arith, q))
here_split (a ∷ (b ∷ (d ∷ (f ∷ (g ∷ (h ∷ [])))))) tail e = absurd (let q : ◌≡◌ {A = ℕ} 42 108 = cc in omega (arith, q))
here_split (a ∷ (b ∷ (d ∷ (f ∷ (g ∷ (h ∷ (i ∷ front))))))) tail e = record { front = front; both = cc }

-- the same further on
body_split : (front left tail : List ℕ) → front ++ (42 ∷ 41 ∷ []) ≡ left ++ (mpcal ++ tail) → Ended tail
body_split front [] tail e = here_split front tail e
body_split [] (x ∷ left) tail e =
    let q : 41 ∷ [] ≡ left ++ (mpcal ++ tail) = cc in
    absurd (omega (arith, ap length q, length-append left (mpcal ++ tail), length-append mpcal tail))
body_split (y ∷ front) (x ∷ left) tail e = body_split front left tail cc

body_is : (tail : List ℕ) (h : Ended tail) → body (mpcal ++ tail) ≡ h.front
body_is tail h =
    let long : length tail - 2 ≡ length h.front = (let q = ap length h.both ∙ length-append h.front (42 ∷ 41 ∷ []) in omega (arith, q)) in
    (λ i. take (long i) tail) ∙ (λ i. take (length h.front) (h.both i)) ∙ take-append_seam h.front (42 ∷ 41 ∷ [])

-- ---- the algorithm's comment is found

-- the bytes begin with the algorithm's comment
pub record Inside (bs body behind : List ℕ) : Type 0 where
  pub comment : List ℕ
  pub opening : List ℕ
  pub both : bs ≡ comment ++ behind
  pub is : IsAlgorithmComment comment opening body

-- the first `--mpcal` of a comment
comment_body : (comment word : List ℕ) → IsComment comment → mpcal_from comment ≡ Some word → (opening : List ℕ) × IsAlgorithmComment comment opening (body word)
comment_body comment word is e =
    let f = found_first AtMpcal is_mpcal_at stays (λ _. true) tells_mpcal [] comment word e in
    let tail = f.has.behind in
    let d = comment_ended comment is in
    let split : comment ≡ f.middle ++ (mpcal ++ tail) = f.split ∙ (λ i. f.middle ++ f.has.both i) in
    let t = body_split d.front f.middle tail (sym d.both ∙ split) in
    let content : body word ≡ t.front = ap body f.has.both ∙ body_is tail t in
    let w : mpcal ++ tail ≡ mpcal ++ (t.front ++ (42 ∷ 41 ∷ [])) = (λ i. mpcal ++ t.both i) in
    let word_is : word ≡ mpcal ++ (t.front ++ (42 ∷ 41 ∷ [])) = f.has.both ∙ w in (
      f.middle,
      subst (λ x. IsAlgorithmComment comment f.middle x) (sym content) (record {
        is_comment = is;
        both = split ∙ (λ i. f.middle ++ w i);
        first = record {
          here = subst (λ x. BeginsWith mpcal x) word_is f.has;
          first = λ earlier later q k. f.first earlier later (q ∙ (λ i. f.middle ++ sym word_is i) ∙ sym f.split) k;
        };
      }),
    )

-- bytes that open a comment, with what stands behind it
comment_behind : (bs rest : List ℕ) → behind bs ≡ Some rest → (comment : List ℕ) × ((bs ≡ comment ++ rest) × IsComment comment)
unfolding behind
comment_behind bs rest e = if_some (opens bs) _ _ rest _ e (λ o e. at bs o e) (λ _ e. no_some rest _ e)
  where
    at : (bs : List ℕ) → opens bs ≡ true → behind_comment 1 (drop 2 bs) ≡ Some rest → (comment : List ℕ) × ((bs ≡ comment ++ rest) × IsComment comment)
    at [] o e = cc
    at (x ∷ []) o e = cc
    at (x ∷ (y ∷ bs)) o e =
        let q = and_parts (nat_eq x 40) (nat_eq y 42) o in
        let d = closing_sound 1 bs rest e in
        (40 ∷ (42 ∷ d.front), ((λ i. eqb-true x 40 q.0 i ∷ (eqb-true y 42 q.1 i ∷ d.split i)), record { text = d.front; both = refl; closes = d.is }))

front_of : (comment rest bs : List ℕ) → bs ≡ comment ++ rest → take (length bs - length rest) bs ≡ comment
front_of comment rest bs e =
    let long : length bs - length rest ≡ length comment = (let q = ap length e ∙ length-append comment rest in omega (arith, q)) in
    (λ i. take (long i) bs) ∙ (λ i. take (length comment) (e i)) ∙ take-append_seam comment rest

pub inside_sound : (bs content rest : List ℕ) → inside bs ≡ Some (content, rest) → Inside bs content rest
unfolding inside
inside_sound bs content rest e = by_behind (behind bs) refl e
  where
    by_word : (r comment : List ℕ) → bs ≡ comment ++ r → IsComment comment → (o : Option (List ℕ)) → mpcal_from comment ≡ o → body_by r o ≡ Some (content, rest) → Inside bs content rest
    by_word r comment split is None got e = cc
    by_word r comment split is (Some word) got e =
        let b = comment_body comment word is got in
        let pair : ◌≡◌ {A = List ℕ × List ℕ} (body word, r) (content, rest) = cc in
        let same : r ≡ rest = ap (λ p. p.1) pair in
        let content_is : body word ≡ content = ap (λ p. p.0) pair in
        record { comment = comment; opening = b.0; both = split ∙ (λ i. comment ++ same i); is = subst (λ x. IsAlgorithmComment comment b.0 x) content_is b.1 }

    by_behind : (o : Option (List ℕ)) → behind bs ≡ o → inside_by bs o ≡ Some (content, rest) → Inside bs content rest
    by_behind None got e = cc
    by_behind (Some r) got e =
        let k = comment_behind bs r got in
        by_word r k.0 k.1.0 k.1.1 (mpcal_from k.0) refl (ap (λ x. body_by r (mpcal_from x)) (sym (front_of k.0 r bs k.1.0)) ∙ e)

-- ---- a comment with an algorithm is found as one

word_of : (comment opening content : List ℕ) → IsAlgorithmComment comment opening content → mpcal_from comment ≡ Some (mpcal ++ (content ++ (42 ∷ 41 ∷ [])))
word_of comment opening content h =
    let word = mpcal ++ (content ++ (42 ∷ 41 ∷ [])) in
    ap mpcal_from h.both ∙ first_found AtMpcal is_mpcal_at stays (λ _. true) tells_mpcal [] opening word h.first.here (λ l r e k. h.first.first l r e k)

behind_at : (comment rest : List ℕ) → IsComment comment → behind (comment ++ rest) ≡ Some rest
unfolding behind
behind_at comment rest is = subst (λ x. behind (x ++ rest) ≡ Some rest) (sym is.both) (closing_complete is.closes rest)

by_parts : (comment rest : List ℕ) → IsComment comment → inside (comment ++ rest) ≡ body_by rest (mpcal_from comment)
unfolding inside
by_parts comment rest is =
    ap (inside_by (comment ++ rest)) (behind_at comment rest is) ∙ ap (λ x. body_by rest (mpcal_from x)) (front_of comment rest (comment ++ rest) refl)

pub inside_found : (comment opening content rest : List ℕ) → IsAlgorithmComment comment opening content → inside (comment ++ rest) ≡ Some (content, rest)
inside_found comment opening content rest h =
    by_parts comment rest h.is_comment ∙ ap (body_by rest) (word_of comment opening content h)
    ∙ ap (λ x. Some (x, rest)) (body_is (content ++ (42 ∷ 41 ∷ [])) (record { front = content; both = refl }))

-- ---- a comment without one is passed over

-- a comment in which no algorithm is found holds none
pub older_comment : (comment rest : List ℕ) → IsComment comment → is_some (inside (comment ++ rest)) ≡ false → Holds mpcal comment → ⊥
older_comment comment rest is e h = go (mpcal_from comment) refl (ap is_some (sym (by_parts comment rest is)) ∙ e)
  where
    go : (o : Option (List ℕ)) → mpcal_from comment ≡ o → is_some (body_by rest o) ≡ false → ⊥
    go (Some word) got k = cc
    go None got k = none_first AtMpcal is_mpcal_at stays (λ _. true) tells_mpcal [] comment got h.before h.rest (sym h.both) h.here

-- a piece that is passed over
pub passed_over : {piece rest : List ℕ} → IsPiece piece rest None → is_some (inside (piece ++ rest)) ≡ false → HasNoAlgorithm piece
passed_over (c.blank {b} {rest} h) e = λ o _. cc
passed_over (c.line {bs} {rest} run) e = λ o _. cc
passed_over (c.comment {bs} {rest} d) e = λ _ h. older_comment (40 ∷ (42 ∷ bs)) rest (record { text = bs; both = refl; closes = d }) e h

-- a text begins with one piece
pub record SamePiece (piece other : List ℕ) (o p : Option Token) : Type 0 where
  pub same : piece ≡ other
  pub token : o ≡ p

pub one_piece : {piece rest other behind : List ℕ} {o p : Option Token} → IsPiece piece rest o → IsPiece other behind p → piece ++ rest ≡ other ++ behind → SamePiece piece other o p
one_piece {piece} {rest} {other} {behind} {o} {p} is that e =
    let f = piece_found is in
    let g = piece_found that in
    let found : Some (piece_of (length piece) o) ≡ Some (piece_of (length other) p) = sym f.is ∙ ap first_piece e ∙ g.is in
    let pieces : piece_of (length piece) o ≡ piece_of (length other) p = cc in
    let long : length piece ≡ length other = ap (λ x. x.length) pieces in
    record {
      same = sym (take-append_seam piece rest) ∙ (λ i. take (long i) (e i)) ∙ take-append_seam other behind;
      token = ap (λ x. x.token) pieces;
    }

-- where a piece that holds no algorithm stands, none is found
pub not_inside : (piece rest : List ℕ) (o : Option Token) → IsPiece piece rest o → (o ≡ None → HasNoAlgorithm piece) → is_some (inside (piece ++ rest)) ≡ false
not_inside piece rest o is clean = go (inside (piece ++ rest)) refl
  where
    refuted : (content behind : List ℕ) → Inside (piece ++ rest) content behind → ⊥
    refuted content behind k =
        let text = k.is.is_comment.text in
        let split : piece ++ rest ≡ (40 ∷ (42 ∷ text)) ++ behind = k.both ∙ (λ j. k.is.is_comment.both j ++ behind) in
        let q = one_piece is (c.comment {bs = text} {rest = behind} k.is.is_comment.closes) split in
        let opened : opens piece ≡ true = ap opens q.same in
        let holds : Holds mpcal (40 ∷ (42 ∷ text)) = record { before = k.opening; rest = _; both = sym k.is.is_comment.both ∙ k.is.both; here = k.is.first.here } in
        clean q.token opened (subst (λ x. Holds mpcal x) (sym q.same) holds)

    go : (i : Option (List ℕ × List ℕ)) → inside (piece ++ rest) ≡ i → is_some i ≡ false
    go None e = refl
    go (Some i) e = absurd (refuted i.0 i.1 (inside_sound (piece ++ rest) i.0 i.1 e))
