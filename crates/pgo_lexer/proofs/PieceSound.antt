-- The piece that the functions give is one by the rules.
use Rattle.std.proofs.Common.{◌≡◌, ◌≤◌, ◌<◌, ◌+◌, ◌-◌, ℕ, true, false, ◌&&◌, cond, nat_eq, nat_le, List, [], ◌∷◌, ◌++◌, length, take, drop, Option, Some, None, refl, sym, ◌∙◌, ap, subst, arith, inl, inr}
use Rattle.std.specs.Prelude.{codes, pos}
use Rattle.std.specs.List.{prefix_len}
use Rattle.std.proofs.Math.Seq.{take-add, take-append_seam}
use Rattle.std.proofs.lemmas.Bool.{and_parts, eqb-true, leb-true}
use Rattle.std.proofs.lemmas.Bool.Decides.{leb_tells}
use Rattle.std.proofs.lemmas.List.{take-append-drop, append_assoc, length-append, length-take-le, length-drop}
use Rattle.std.proofs.lemmas.List.Folds.{length-prefix_len}
use Rattle.pgo_model.specs.ValueText.{is_digit, is_letter, is_word_byte, all_word_bytes, has_letter, is_one_of, reserved_words, is_identifier, same_bytes}
use Rattle.pgo_model.specs.Names.{same_bytes-is}
use Rattle.pgo_lexer.specs.declared.token.Token.{Token}
use Rattle.pgo_lexer.specs.declared.token.Token.TheVariants as t
use Rattle.pgo_lexer.specs.declared.piece.Piece.{Piece}
use Rattle.pgo_lexer.specs.declared.symbol.Symbol.{Symbol}
use Rattle.pgo_lexer.specs.declared.symbol.Symbol.TheVariants as s
use Rattle.pgo_lexer.specs.Symbols.{find, reserved, signs, slash_words, dollar_words}
use Rattle.pgo_lexer.specs.Lexemes.{all_are, IsRun, IsPiece, is_blank, is_in_line, opens, opens_line, opens_word, largest, value}
use Rattle.pgo_lexer.specs.Lexemes as l
use Rattle.pgo_lexer.specs.Pieces.{piece_of, token_piece, symbol_piece, begins, is_quote, is_dollar, number_from, number_token, named, named_by, word_token, word, chars, string, string_piece, behind_comment, comment, comment_piece, slashed, dollar, or_else, sign, first_piece}
use Rattle.pgo_lexer.proofs.Runs.{if_some, no_some, run_goes, run_at}
use Rattle.pgo_lexer.proofs.Tables.{not_found, reserved_are, no_sign}
use Rattle.pgo_lexer.proofs.Numbers.{number_sound}
use Rattle.pgo_lexer.proofs.Strings.{Content, content_sound}
use Rattle.pgo_lexer.proofs.Closing.{Closed, closing_sound}

-- the text begins with the piece
pub record Begins (bs : List ℕ) (p : Piece) : Type 0 where
  pub front : List ℕ
  pub rest : List ℕ
  pub split : bs ≡ front ++ rest
  pub long : length front ≡ p.length
  pub is : IsPiece front rest p.token

begin : (bs front rest : List ℕ) (n : ℕ) (o : Option Token) (p : Piece) → bs ≡ front ++ rest → length front ≡ n → IsPiece front rest o → Some (piece_of n o) ≡ Some p → Begins bs p
begin bs front rest n o p split long is e =
    let same : piece_of n o ≡ p = cc in
    subst (λ (x : Piece). Begins bs x) same (record { front = front; rest = rest; split = split; long = long; is = is })

-- ---- words

word_bytes : (bs : List ℕ) → all_are is_word_byte bs ≡ true → all_word_bytes bs ≡ true
word_bytes [] h = refl
word_bytes (b ∷ bs) h = let q = and_parts (is_word_byte b) (all_are is_word_byte bs) h in λ i. q.0 i && word_bytes bs q.1 i

identifier : (f : List ℕ) → all_are is_word_byte f ≡ true → has_letter f ≡ true → find f reserved ≡ None → is_identifier f ≡ true
identifier f all letter free =
    let no : is_one_of f reserved_words ≡ false = (λ i. is_one_of f (sym reserved_are i)) ∙ not_found f reserved free in
    λ i. word_bytes f all i && letter i && cond (no i) false true

named_sound : (f rest : List ℕ) (token : Token) (o : Option Symbol) → IsRun is_word_byte f rest → has_letter f ≡ true → find f reserved ≡ o → named_by f o ≡ Some token → IsPiece f rest (Some token)
named_sound f rest token (Some symbol) run letter is e = let same : t.Symbol symbol ≡ token = cc in subst (λ x. IsPiece f rest (Some x)) same (l.word run is)
named_sound f rest token None run letter is e =
    if_some (nat_le (length f) 512) (Some (t.Name f)) None token (IsPiece f rest (Some token)) e
    (λ few e. let same : t.Name f ≡ token = cc in subst (λ x. IsPiece f rest (Some x)) same (l.name run (identifier f run.all letter is) (leb-true (length f) 512 few)))
    (λ _ e. no_some token _ e)

number_piece : (b : ℕ) (bs rest : List ℕ) (token : Token) (o : Option ℕ) → IsRun is_word_byte (b ∷ bs) rest → all_are is_digit (b ∷ bs) ≡ true → number_from 0 (b ∷ bs) ≡ o → number_token o ≡ Some token → IsPiece (b ∷ bs) rest (Some token)
number_piece b bs rest token None run digits is e = no_some token _ e
number_piece b bs rest token (Some v) run digits is e =
    let q = number_sound 0 v (b ∷ bs) (omega arith) is in
    let same : t.Number (pos v) ≡ token = cc in
    let small : value (b ∷ bs) ≤ largest = omega (arith, q.0, q.1) in
    subst (λ x. IsPiece (b ∷ bs) rest (Some x)) same (subst (λ n. IsPiece (b ∷ bs) rest (Some (t.Number (pos n)))) q.0 (l.number run digits small))

word_token_sound : (b : ℕ) (bs rest : List ℕ) (token : Token) → IsRun is_word_byte (b ∷ bs) rest → word_token (b ∷ bs) ≡ Some token → IsPiece (b ∷ bs) rest (Some token)
unfolding word_token named
word_token_sound b bs rest token run e =
    let f = b ∷ bs in
    let G : Type 0 = IsPiece (b ∷ bs) rest (Some token) in
    if_some (all_are is_digit f) _ _ token G e
    (λ digits e. number_piece b bs rest token (number_from 0 (b ∷ bs)) run digits refl e)
    (λ _ e. if_some (has_letter f) _ _ token G e
    (λ letter e. named_sound f rest token (find f reserved) run letter refl e)
    (λ _ e. if_some (same_bytes f (codes "_")) _ _ token G e
    (λ same e. let is : b ∷ bs ≡ 95 ∷ [] = same_bytes-is f (codes "_") same in let q : t.Symbol s.Underscore ≡ token = cc in
    subst (λ x. IsPiece (b ∷ bs) rest (Some x)) q (subst (λ x. IsPiece x rest (Some (t.Symbol s.Underscore))) (sym is) (l.underscore run.longest)))
    (λ _ e. no_some token _ e)))

token_piece_sound : (bs f rest : List ℕ) (n : ℕ) (o : Option Token) (p : Piece) → bs ≡ f ++ rest → length f ≡ n → token_piece n o ≡ Some p → ((token : Token) → o ≡ Some token → IsPiece f rest (Some token)) → Begins bs p
token_piece_sound bs f rest n None p split long e h = no_some p _ e
token_piece_sound bs f rest n (Some token) p split long e h = begin bs f rest n (Some token) p split long (h token refl) e

symbol_piece_sound : (bs f rest : List ℕ) (n : ℕ) (o : Option Symbol) (p : Piece) → bs ≡ f ++ rest → length f ≡ n → symbol_piece n o ≡ Some p → ((symbol : Symbol) → o ≡ Some symbol → IsPiece f rest (Some (t.Symbol symbol))) → Begins bs p
symbol_piece_sound bs f rest n None p split long e h = no_some p _ e
symbol_piece_sound bs f rest n (Some symbol) p split long e h = begin bs f rest n (Some (t.Symbol symbol)) p split long (h symbol refl) e

run_of_some : (f rest : List ℕ) (token : Token) → 0 < length f → IsRun is_word_byte f rest → word_token f ≡ Some token → IsPiece f rest (Some token)
run_of_some [] rest token some run e = absurd (omega arith)
run_of_some (b ∷ bs) rest token some run e = word_token_sound b bs rest token run e

run_some : (b : ℕ) (bs : List ℕ) → is_word_byte b ≡ true → 0 < prefix_len is_word_byte (b ∷ bs)
run_some b bs h = let e = run_goes is_word_byte b bs h in omega (arith, e)

word_sound : (bs : List ℕ) (p : Piece) → begins is_word_byte bs ≡ true → word bs ≡ Some p → Begins bs p
unfolding word
word_sound [] p h e = cc
word_sound (b ∷ bs) p h e =
    let n = prefix_len is_word_byte (b ∷ bs) in
    let long = length-prefix_len is_word_byte (b ∷ bs) in
    let some = run_some b bs h in
    token_piece_sound (b ∷ bs) (take n (b ∷ bs)) (drop n (b ∷ bs)) n (word_token (take n (b ∷ bs))) p (sym (take-append-drop n (b ∷ bs))) long e
    (λ token is. run_of_some (take n (b ∷ bs)) (drop n (b ∷ bs)) token (omega (arith, long, some)) (run_at is_word_byte (b ∷ bs)) is)

-- ---- strings

string_by : (bs : List ℕ) (o : Option (List ℕ × ℕ)) (p : Piece) → string_piece o ≡ Some p → ((x : List ℕ × ℕ) → o ≡ Some x → Content [] 1 bs x) → Begins (34 ∷ bs) p
string_by bs None p e h = no_some p _ e
string_by bs (Some x) p e h =
    let c = h x refl in
    let long : length (34 ∷ (c.inner ++ 34 ∷ [])) ≡ x.1 = (let q = length-append c.inner (34 ∷ []) in omega (arith, q, c.long)) in
    let split : 34 ∷ bs ≡ (34 ∷ (c.inner ++ 34 ∷ [])) ++ c.rest = ap (λ y. 34 ∷ y) (c.split ∙ sym (append_assoc c.inner (34 ∷ []) c.rest)) in
    let is : IsPiece (34 ∷ (c.inner ++ 34 ∷ [])) c.rest (Some (t.Text c.string)) = l.string c.is in
    begin (34 ∷ bs) (34 ∷ (c.inner ++ 34 ∷ [])) c.rest x.1 (Some (t.Text x.0)) p split long (subst (λ y. IsPiece (34 ∷ (c.inner ++ 34 ∷ [])) c.rest (Some (t.Text y))) (sym c.text) is) e

string_sound : (bs : List ℕ) (p : Piece) → begins is_quote bs ≡ true → string bs ≡ Some p → Begins bs p
unfolding string
string_sound [] p h e = cc
string_sound (b ∷ bs) p h e =
    let q : Begins (34 ∷ bs) p = string_by bs (chars (length bs) [] 1 bs) p e (λ x is. content_sound (length bs) [] 1 bs x is) in
    subst (λ x. Begins (x ∷ bs) p) (sym (eqb-true b 34 h)) q

-- ---- comments

comment_by : (bs : List ℕ) (o : Option (List ℕ)) (p : Piece) → comment_piece (length (40 ∷ (42 ∷ bs))) o ≡ Some p → ((rest : List ℕ) → o ≡ Some rest → Closed 1 bs rest) → Begins (40 ∷ (42 ∷ bs)) p
comment_by bs None p e h = no_some p _ e
comment_by bs (Some rest) p e h =
    let c = h rest refl in
    let whole = ap length c.split ∙ length-append c.front rest in
    let long : length (40 ∷ (42 ∷ c.front)) ≡ length (40 ∷ (42 ∷ bs)) - length rest = omega (arith, whole) in
    begin (40 ∷ (42 ∷ bs)) (40 ∷ (42 ∷ c.front)) rest (length (40 ∷ (42 ∷ bs)) - length rest) None p (ap (λ y. 40 ∷ (42 ∷ y)) c.split) long (l.comment c.is) e

comment_sound : (bs : List ℕ) (p : Piece) → opens bs ≡ true → comment bs ≡ Some p → Begins bs p
unfolding comment
comment_sound [] p h e = cc
comment_sound (b ∷ []) p h e = cc
comment_sound (b ∷ (c ∷ bs)) p h e =
    let q = and_parts (nat_eq b 40) (nat_eq c 42) h in
    let r : Begins (40 ∷ (42 ∷ bs)) p = comment_by bs (behind_comment 1 bs) p e (λ rest is. closing_sound 1 bs rest is) in
    subst (λ x. Begins (x ∷ (c ∷ bs)) p) (sym (eqb-true b 40 q.0)) (subst (λ x. Begins (40 ∷ (x ∷ bs)) p) (sym (eqb-true c 42 q.1)) r)

line_sound : (bs : List ℕ) (p : Piece) → opens_line bs ≡ true → Some (piece_of (prefix_len is_in_line bs) None) ≡ Some p → Begins bs p
line_sound [] p h e = cc
line_sound (b ∷ []) p h e = cc
line_sound (b ∷ (c ∷ bs)) p h e =
    let q = and_parts (nat_eq b 92) (nat_eq c 42) h in
    let n = prefix_len is_in_line bs in
    let long : length (92 ∷ (42 ∷ take n bs)) ≡ prefix_len is_in_line (92 ∷ (42 ∷ bs)) = (let k = length-prefix_len is_in_line bs in omega (arith, k)) in
    let e2 : Some (piece_of (prefix_len is_in_line (92 ∷ (42 ∷ bs))) None) ≡ Some p = (λ i. Some (piece_of (prefix_len is_in_line (sym (eqb-true b 92 q.0) i ∷ (sym (eqb-true c 42 q.1) i ∷ bs))) None)) ∙ e in
    let r : Begins (92 ∷ (42 ∷ bs)) p = begin (92 ∷ (42 ∷ bs)) (92 ∷ (42 ∷ take n bs)) (drop n bs) (prefix_len is_in_line (92 ∷ (42 ∷ bs))) None p (ap (λ y. 92 ∷ (42 ∷ y)) (sym (take-append-drop n bs))) long (l.line (run_at is_in_line bs)) e2 in
    subst (λ x. Begins (x ∷ (c ∷ bs)) p) (sym (eqb-true b 92 q.0)) (subst (λ x. Begins (92 ∷ (x ∷ bs)) p) (sym (eqb-true c 42 q.1)) r)

-- ---- words behind `\` and `$`

slash_begins : (bs : List ℕ) (p : Piece) → symbol_piece (prefix_len is_letter bs + 1) (find (take (prefix_len is_letter bs) bs) slash_words) ≡ Some p → Begins (92 ∷ bs) p
slash_begins bs p e =
    let n = prefix_len is_letter bs in
    let long : length (92 ∷ take n bs) ≡ n + 1 = (let k = length-prefix_len is_letter bs in omega (arith, k)) in
    symbol_piece_sound (92 ∷ bs) (92 ∷ take n bs) (drop n bs) (n + 1) (find (take n bs) slash_words) p (ap (λ y. 92 ∷ y) (sym (take-append-drop n bs))) long e (λ symbol is. l.slashed (run_at is_letter bs) is)

slashed_sound : (bs : List ℕ) (p : Piece) → opens_word bs ≡ true → slashed bs ≡ Some p → Begins bs p
unfolding slashed
slashed_sound [] p h e = cc
slashed_sound (b ∷ []) p h e = cc
slashed_sound (b ∷ (c ∷ bs)) p h e =
    let q = and_parts (nat_eq b 92) (is_letter c) h in
    subst (λ x. Begins (x ∷ (c ∷ bs)) p) (sym (eqb-true b 92 q.0)) (slash_begins (c ∷ bs) p e)

dollar_begins : (bs : List ℕ) (p : Piece) → symbol_piece (prefix_len is_word_byte bs + 1) (find (take (prefix_len is_word_byte bs) bs) dollar_words) ≡ Some p → Begins (36 ∷ bs) p
dollar_begins bs p e =
    let n = prefix_len is_word_byte bs in
    let long : length (36 ∷ take n bs) ≡ n + 1 = (let k = length-prefix_len is_word_byte bs in omega (arith, k)) in
    symbol_piece_sound (36 ∷ bs) (36 ∷ take n bs) (drop n bs) (n + 1) (find (take n bs) dollar_words) p (ap (λ y. 36 ∷ y) (sym (take-append-drop n bs))) long e (λ symbol is. l.dollar (run_at is_word_byte bs) is)

dollar_sound : (bs : List ℕ) (p : Piece) → begins is_dollar bs ≡ true → dollar bs ≡ Some p → Begins bs p
unfolding dollar
dollar_sound [] p h e = cc
dollar_sound (b ∷ bs) p h e = subst (λ x. Begins (x ∷ bs) p) (sym (eqb-true b 36 h)) (dollar_begins bs p e)

-- ---- signs

-- longer bytes at the front are no sign
longer : (k : ℕ) (bs more behind : List ℕ) → ((j : ℕ) → k < j → j ≤ 3 → find (take j bs) signs ≡ None) → drop k bs ≡ more ++ behind → 0 < length more → find (take k bs ++ more) signs ≡ None
longer k bs more behind above split some =
    let left = sym (length-drop k bs) ∙ ap length split ∙ length-append more behind in
    let inside : k ≤ length bs = omega (arith, left) in
    let front = length-take-le k bs inside in
    let whole : take (k + length more) bs ≡ take k bs ++ more = take-add k (length more) bs ∙ ap (λ x. take k bs ++ take (length more) x) split ∙ ap (λ x. take k bs ++ x) (take-append_seam more behind) in
    elim (leb_tells (k + length more) 3) [
      | inl h ↦ (λ i. find (sym whole i) signs) ∙ above (k + length more) (omega (arith, some)) h.1
      | inr h ↦ no_sign (take k bs ++ more) (let n = length-append (take k bs) more in omega (arith, n, front, h.1))
    ]

sign_at : (k : ℕ) (bs : List ℕ) (symbol : Symbol) → ((j : ℕ) → k < j → j ≤ 3 → find (take j bs) signs ≡ None) → opens bs ≡ false → opens_line bs ≡ false → opens_word bs ≡ false → find (take k bs) signs ≡ Some symbol → IsPiece (take k bs) (drop k bs) (Some (t.Symbol symbol))
sign_at k bs symbol above no_comment no_line no_word found =
    let whole = take-append-drop k bs in
    l.sign (record {
      found = found;
      longest = λ more behind split some. longer k bs more behind above split some;
      no_comment = ap opens whole ∙ no_comment;
      no_line = ap opens_line whole ∙ no_line;
      no_word = ap opens_word whole ∙ no_word;
    })

or_sign : (k : ℕ) (bs : List ℕ) (o : Option Symbol) (other : Option Piece) (p : Piece) → find (take k bs) signs ≡ o → or_else (symbol_piece (length (take k bs)) o) other ≡ Some p
    → ((symbol : Symbol) → find (take k bs) signs ≡ Some symbol → IsPiece (take k bs) (drop k bs) (Some (t.Symbol symbol)))
    → (find (take k bs) signs ≡ None → other ≡ Some p → Begins bs p) → Begins bs p
or_sign k bs None other p is e here there = there is e
or_sign k bs (Some symbol) other p is e here there = begin bs (take k bs) (drop k bs) (length (take k bs)) (Some (t.Symbol symbol)) p (sym (take-append-drop k bs)) refl (here symbol is) e

above_two : (bs : List ℕ) → find (take 3 bs) signs ≡ None → (j : ℕ) → 2 < j → j ≤ 3 → find (take j bs) signs ≡ None
above_two bs three j more few = let same : j ≡ 3 = omega arith in subst (λ n. find (take n bs) signs ≡ None) (sym same) three

above_one : (bs : List ℕ) → find (take 3 bs) signs ≡ None → find (take 2 bs) signs ≡ None → (j : ℕ) → 1 < j → j ≤ 3 → find (take j bs) signs ≡ None
above_one bs three two j more few = elim (leb_tells j 2) [
  | inl h ↦ (let same : j ≡ 2 = omega (arith, h.1) in subst (λ n. find (take n bs) signs ≡ None) (sym same) two)
  | inr h ↦ above_two bs three j h.1 few
]

sign_sound : (bs : List ℕ) (p : Piece) → opens bs ≡ false → opens_line bs ≡ false → opens_word bs ≡ false → sign bs ≡ Some p → Begins bs p
unfolding sign
sign_sound bs p c n w e =
    or_sign 3 bs (find (take 3 bs) signs) _ p refl e (λ symbol is. sign_at 3 bs symbol (λ j more few. absurd (omega arith)) c n w is)
    (λ three e. or_sign 2 bs (find (take 2 bs) signs) _ p refl e (λ symbol is. sign_at 2 bs symbol (above_two bs three) c n w is)
    (λ two e. symbol_piece_sound bs (take 1 bs) (drop 1 bs) (length (take 1 bs)) (find (take 1 bs) signs) p (sym (take-append-drop 1 bs)) refl e (λ symbol is. sign_at 1 bs symbol (above_one bs three two) c n w is)))

-- ---- any piece

blank_sound : (bs : List ℕ) (p : Piece) → begins is_blank bs ≡ true → Some (piece_of 1 None) ≡ Some p → Begins bs p
blank_sound [] p h e = cc
blank_sound (b ∷ bs) p h e = begin (b ∷ bs) (b ∷ []) bs 1 None p refl refl (l.blank h) e

pub piece_sound : (bs : List ℕ) (p : Piece) → first_piece bs ≡ Some p → Begins bs p
unfolding first_piece
piece_sound bs p e =
    let G : Type 0 = Begins bs p in
    if_some (begins is_blank bs) _ _ p G e (λ h e. blank_sound bs p h e)
    (λ _ e. if_some (begins is_word_byte bs) _ _ p G e (λ h e. word_sound bs p h e)
    (λ _ e. if_some (begins is_quote bs) _ _ p G e (λ h e. string_sound bs p h e)
    (λ _ e. if_some (begins is_dollar bs) _ _ p G e (λ h e. dollar_sound bs p h e)
    (λ _ e. if_some (opens bs) _ _ p G e (λ h e. comment_sound bs p h e)
    (λ c e. if_some (opens_line bs) _ _ p G e (λ h e. line_sound bs p h e)
    (λ n e. if_some (opens_word bs) _ _ p G e (λ h e. slashed_sound bs p h e)
    (λ w e. sign_sound bs p c n w e)))))))
