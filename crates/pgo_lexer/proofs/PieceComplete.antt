-- A piece by the rules is the one that the functions give.
use Rattle.std.proofs.Common.{◌≡◌, ◌≤◌, ◌<◌, ◌+◌, ◌-◌, ℕ, Bool, true, false, not, ◌&&◌, ◌||◌, cond, nat_eq, nat_le, List, [], ◌∷◌, ◌++◌, length, Option, Some, None, refl, sym, ◌∙◌, ap, arith, inl, inr}
use Rattle.std.specs.Prelude.{pos}
use Rattle.std.specs.List.{prefix_len}
use Rattle.std.proofs.lemmas.Bool.{and_parts}
use Rattle.std.proofs.lemmas.Bool.Decides.{leb_tells, nat_tests}
use Rattle.std.proofs.lemmas.List.{append_assoc, length-append}
use Rattle.pgo_model.specs.ValueText.{is_digit, is_letter, is_word_byte, all_word_bytes, has_letter, is_one_of, reserved_words, is_identifier}
use Rattle.pgo_lexer.specs.declared.token.Token.{Token}
use Rattle.pgo_lexer.specs.declared.token.Token.TheVariants as t
use Rattle.pgo_lexer.specs.declared.piece.Piece.{Piece}
use Rattle.pgo_lexer.specs.declared.symbol.Symbol.{Symbol}
use Rattle.pgo_lexer.specs.declared.symbol.Symbol.TheVariants as s
use Rattle.pgo_lexer.specs.Symbols.{find, reserved, signs, slash_words, dollar_words}
use Rattle.pgo_lexer.specs.Lexemes.{all_are, IsRun, IsSign, IsPiece, Closes, Quoted, is_blank, is_in_line, opens, opens_line, opens_word, largest, value}
use Rattle.pgo_lexer.specs.Lexemes as l
use Rattle.pgo_lexer.specs.Pieces.{piece_of, token_piece, symbol_piece, begins, is_quote, is_dollar, number_token, named, named_by, word_token, word, chars, string, string_piece, comment, comment_piece, slashed, dollar, sign_of, or_else, sign, first_piece}
use Rattle.pgo_lexer.proofs.Runs.{cond_true, cond_false, run_found, run_taken}
use Rattle.pgo_lexer.proofs.Tables.{none_found, reserved_are, is_lettered, reserved_lettered, is_front, sign_short, sign_front, slash_letter}
use Rattle.pgo_lexer.proofs.Numbers.{number_complete}
use Rattle.pgo_lexer.proofs.Strings.{content_complete}
use Rattle.pgo_lexer.proofs.Closing.{closing_complete}

-- the functions give this front as a piece
pub record Found (front rest : List ℕ) (o : Option Token) : Type 0 where
  pub some : 0 < length front
  pub is : first_piece (front ++ rest) ≡ Some (piece_of (length front) o)

not_true : (b : Bool) → not b ≡ true → b ≡ false
not_true true h = cc
not_true false h = refl

-- ---- words

no_blank : (b : ℕ) → is_word_byte b ≡ true → is_blank b ≡ false
no_blank b h = grind (arith, nat_tests)

word_first : (b : ℕ) (bs : List ℕ) → is_word_byte b ≡ true → first_piece (b ∷ bs) ≡ word (b ∷ bs)
unfolding first_piece
word_first b bs h = cond_false (is_blank b) _ _ (no_blank b h) ∙ cond_true (is_word_byte b) _ _ h

word_found : (b : ℕ) (bs rest : List ℕ) (token : Token) → IsRun is_word_byte (b ∷ bs) rest → word_token (b ∷ bs) ≡ Some token → Found (b ∷ bs) rest (Some token)
unfolding word
word_found b bs rest token run e =
    let f = b ∷ bs in
    let first = (and_parts (is_word_byte b) (all_are is_word_byte bs) run.all).0 in
    record {
      some = omega arith;
      is = word_first b (bs ++ rest) first
          ∙ ap (λ x. token_piece (prefix_len is_word_byte ((b ∷ bs) ++ rest)) (word_token x)) (run_taken is_word_byte (b ∷ bs) rest run)
          ∙ ap (λ n. token_piece n (word_token (b ∷ bs))) (run_found is_word_byte (b ∷ bs) rest run)
          ∙ ap (token_piece (length (b ∷ bs))) e;
    }

number_word : (f : List ℕ) → all_are is_digit f ≡ true → value f ≤ largest → word_token f ≡ Some (t.Number (pos (value f)))
unfolding word_token
number_word f digits small = cond_true (all_are is_digit f) _ _ digits ∙ ap number_token (number_complete 0 f small)

lettered_word : (f : List ℕ) → has_letter f ≡ true → all_are is_digit f ≡ false → word_token f ≡ named f
unfolding word_token
lettered_word f letter digits = cond_false (all_are is_digit f) _ _ digits ∙ cond_true (has_letter f) _ _ letter

letter_no_digit : (b : ℕ) → is_letter b ≡ true → is_digit b ≡ false
letter_no_digit b h = grind (arith, nat_tests)

lettered : (f : List ℕ) → has_letter f ≡ true → all_are is_digit f ≡ false
lettered [] h = cc
lettered (b ∷ bs) h = go (is_letter b) refl h (λ h. lettered bs h)
  where
    go : (v : Bool) → is_letter b ≡ v → (v || has_letter bs) ≡ true → (has_letter bs ≡ true → all_are is_digit bs ≡ false) → (is_digit b && all_are is_digit bs) ≡ false
    go true e h ih = λ i. letter_no_digit b e i && all_are is_digit bs
    go false e h ih = none (is_digit b) (all_are is_digit bs) (ih h)
      where
        none : (x y : Bool) → y ≡ false → (x && y) ≡ false
        none true y h = h
        none false y h = refl

symbol_word : (f : List ℕ) (symbol : Symbol) → find f reserved ≡ Some symbol → word_token f ≡ Some (t.Symbol symbol)
unfolding named
symbol_word f symbol e =
    let q = and_parts (has_letter f) (not (all_are is_digit f)) (reserved_lettered f symbol e) in
    lettered_word f q.0 (not_true (all_are is_digit f) q.1) ∙ ap (named_by f) e

free : (x y v : Bool) → (x && y && cond v false true) ≡ true → (y ≡ true) × (v ≡ false)
free true true true h = cc
free true true false h = (refl, refl)
free true false v h = cc
free false y v h = cc

few_test : (n m : ℕ) → n ≤ m → nat_le n m ≡ true
few_test n m h = elim (leb_tells n m) [ inl k ↦ k.0 | inr k ↦ absurd (omega (arith, k.1)) ]

name_word : (f : List ℕ) → is_identifier f ≡ true → length f ≤ 512 → word_token f ≡ Some (t.Name f)
unfolding named
name_word f is few =
    let q = free (all_word_bytes f) (has_letter f) (is_one_of f reserved_words) is in
    let none : find f reserved ≡ None = none_found f reserved ((λ i. is_one_of f (reserved_are i)) ∙ q.1) in
    lettered_word f q.0 (lettered f q.0) ∙ ap (named_by f) none ∙ cond_true (nat_le (length f) 512) _ _ (few_test (length f) 512 few)

underscore_word : word_token (95 ∷ []) ≡ Some (t.Symbol s.Underscore)
unfolding word_token
underscore_word = refl

some_word : (f rest : List ℕ) (token : Token) → (f ≡ [] → ⊥) → IsRun is_word_byte f rest → word_token f ≡ Some token → Found f rest (Some token)
some_word [] rest token some run e = absurd (some refl)
some_word (b ∷ bs) rest token some run e = word_found b bs rest token run e

no_reserved : (f : List ℕ) (symbol : Symbol) → find f reserved ≡ Some symbol → f ≡ [] → ⊥
no_reserved f symbol e none = let q : is_lettered f ≡ false = ap is_lettered none in let r = sym q ∙ reserved_lettered f symbol e in cc

no_identifier : (f : List ℕ) → is_identifier f ≡ true → f ≡ [] → ⊥
no_identifier f e none = let q : is_identifier f ≡ false = ap is_identifier none in let r = sym q ∙ e in cc

-- ---- strings, comments and lines

string_found : (bs text rest : List ℕ) → Quoted bs text → Found (34 ∷ (bs ++ 34 ∷ [])) rest (Some (t.Text text))
unfolding first_piece string
string_found bs text rest d =
    let flat : (bs ++ 34 ∷ []) ++ rest ≡ bs ++ (34 ∷ rest) = append_assoc bs (34 ∷ []) rest in
    let turns : length bs + 1 ≤ length (bs ++ (34 ∷ rest)) = (let n = length-append bs (34 ∷ rest) in omega (arith, n)) in
    let long : 1 + length bs + 1 ≡ length (34 ∷ (bs ++ 34 ∷ [])) = (let n = length-append bs (34 ∷ []) in omega (arith, n)) in
    record {
      some = omega arith;
      is = ap (λ x. string_piece (chars (length x) [] 1 x)) flat ∙ ap string_piece (content_complete d (length (bs ++ (34 ∷ rest))) [] 1 rest turns) ∙ ap (λ n. Some (piece_of n (Some (t.Text text)))) long;
    }

comment_found : (bs rest : List ℕ) → Closes 1 bs → Found (40 ∷ (42 ∷ bs)) rest None
unfolding first_piece comment
comment_found bs rest d =
    let long : length (40 ∷ (42 ∷ (bs ++ rest))) - length rest ≡ length (40 ∷ (42 ∷ bs)) = (let n = length-append bs rest in omega (arith, n)) in
    record {
      some = omega arith;
      is = ap (comment_piece (length (40 ∷ (42 ∷ (bs ++ rest))))) (closing_complete d rest) ∙ ap (λ n. Some (piece_of n None)) long;
    }

line_found : (bs rest : List ℕ) → IsRun is_in_line bs rest → Found (92 ∷ (42 ∷ bs)) rest None
unfolding first_piece
line_found bs rest run =
    let long : prefix_len is_in_line (92 ∷ (42 ∷ (bs ++ rest))) ≡ length (92 ∷ (42 ∷ bs)) = (let n = run_found is_in_line bs rest run in omega (arith, n)) in
    record { some = omega arith; is = ap (λ n. Some (piece_of n None)) long }

blank_found : (b : ℕ) (rest : List ℕ) → is_blank b ≡ true → Found (b ∷ []) rest None
unfolding first_piece
blank_found b rest h = record { some = omega arith; is = cond_true (is_blank b) _ _ h }

-- ---- words behind `\` and `$`

slash_first : (c : ℕ) (bs : List ℕ) → is_letter c ≡ true → first_piece (92 ∷ (c ∷ bs)) ≡ slashed (92 ∷ (c ∷ bs))
unfolding first_piece
slash_first c bs h = cond_false (nat_eq c 42) _ _ (no_star c h) ∙ cond_true (is_letter c) _ _ h
  where
    no_star : (c : ℕ) → is_letter c ≡ true → nat_eq c 42 ≡ false
    no_star c h = grind (arith, nat_tests)

slashed_found : (bs rest : List ℕ) (symbol : Symbol) → IsRun is_letter bs rest → find bs slash_words ≡ Some symbol → begins is_letter bs ≡ true → Found (92 ∷ bs) rest (Some (t.Symbol symbol))
unfolding slashed
slashed_found [] rest symbol run e h = cc
slashed_found (c ∷ bs) rest symbol run e h =
    let f = c ∷ bs in
    let long : length (c ∷ bs) + 1 ≡ length (92 ∷ (c ∷ bs)) = omega arith in
    record {
      some = omega arith;
      is = slash_first c (bs ++ rest) h
          ∙ ap (λ x. symbol_piece (prefix_len is_letter ((c ∷ bs) ++ rest) + 1) (find x slash_words)) (run_taken is_letter (c ∷ bs) rest run)
          ∙ ap (λ n. symbol_piece (n + 1) (find (c ∷ bs) slash_words)) (run_found is_letter (c ∷ bs) rest run)
          ∙ ap (symbol_piece (length (c ∷ bs) + 1)) e ∙ ap (λ n. Some (piece_of n (Some (t.Symbol symbol)))) long;
    }

dollar_found : (bs rest : List ℕ) (symbol : Symbol) → IsRun is_word_byte bs rest → find bs dollar_words ≡ Some symbol → Found (36 ∷ bs) rest (Some (t.Symbol symbol))
unfolding first_piece dollar
dollar_found bs rest symbol run e =
    let long : length bs + 1 ≡ length (36 ∷ bs) = omega arith in
    record {
      some = omega arith;
      is = ap (λ x. symbol_piece (prefix_len is_word_byte (bs ++ rest) + 1) (find x dollar_words)) (run_taken is_word_byte bs rest run)
          ∙ ap (λ n. symbol_piece (n + 1) (find bs dollar_words)) (run_found is_word_byte bs rest run)
          ∙ ap (symbol_piece (length bs + 1)) e ∙ ap (λ n. Some (piece_of n (Some (t.Symbol symbol)))) long;
    }

-- ---- signs

here : (f : List ℕ) (symbol : Symbol) (other : Option Piece) → find f signs ≡ Some symbol → or_else (sign_of f) other ≡ Some (piece_of (length f) (Some (t.Symbol symbol)))
here f symbol other e = ap (λ o. or_else (symbol_piece (length f) o) other) e

there : (f : List ℕ) (other : Option Piece) → find f signs ≡ None → or_else (sign_of f) other ≡ other
there f other e = ap (λ o. or_else (symbol_piece (length f) o) other) e

last : (f : List ℕ) (symbol : Symbol) → find f signs ≡ Some symbol → sign_of f ≡ Some (piece_of (length f) (Some (t.Symbol symbol)))
last f symbol e = ap (symbol_piece (length f)) e

abbrev Signs : List ℕ → List ℕ → Symbol → Type 0
Signs f rest symbol = sign (f ++ rest) ≡ Some (piece_of (length f) (Some (t.Symbol symbol)))

one_sign : (a : ℕ) (rest : List ℕ) (symbol : Symbol) → IsSign (a ∷ []) rest symbol → Signs (a ∷ []) rest symbol
unfolding sign
one_sign a [] symbol h = here (a ∷ []) symbol _ h.found
one_sign a (b ∷ []) symbol h =
    let two = h.longest (b ∷ []) [] refl (omega arith) in
    there (a ∷ (b ∷ [])) _ two ∙ there (a ∷ (b ∷ [])) _ two ∙ last (a ∷ []) symbol h.found
one_sign a (b ∷ (c ∷ rest)) symbol h =
    let two = h.longest (b ∷ []) (c ∷ rest) refl (omega arith) in
    let three = h.longest (b ∷ (c ∷ [])) rest refl (omega arith) in
    there (a ∷ (b ∷ (c ∷ []))) _ three ∙ there (a ∷ (b ∷ [])) _ two ∙ last (a ∷ []) symbol h.found

two_signs : (a b : ℕ) (rest : List ℕ) (symbol : Symbol) → IsSign (a ∷ (b ∷ [])) rest symbol → Signs (a ∷ (b ∷ [])) rest symbol
unfolding sign
two_signs a b [] symbol h = here (a ∷ (b ∷ [])) symbol _ h.found
two_signs a b (c ∷ rest) symbol h =
    let three = h.longest (c ∷ []) rest refl (omega arith) in
    there (a ∷ (b ∷ (c ∷ []))) _ three ∙ here (a ∷ (b ∷ [])) symbol _ h.found

three_signs : (a b c : ℕ) (rest : List ℕ) (symbol : Symbol) → IsSign (a ∷ (b ∷ (c ∷ []))) rest symbol → Signs (a ∷ (b ∷ (c ∷ []))) rest symbol
unfolding sign
three_signs a b c rest symbol h = here (a ∷ (b ∷ (c ∷ []))) symbol _ h.found

sign_first : (a : ℕ) (bs : List ℕ) → is_front (a ∷ bs) ≡ true → (rest : List ℕ) → opens (a ∷ (bs ++ rest)) ≡ false → opens_line (a ∷ (bs ++ rest)) ≡ false → opens_word (a ∷ (bs ++ rest)) ≡ false → first_piece (a ∷ (bs ++ rest)) ≡ sign (a ∷ (bs ++ rest))
unfolding first_piece
sign_first a bs h rest c n w =
    let q = and_parts (not (is_blank a) && not (is_word_byte a)) ((not (is_quote a) && not (is_dollar a)) && nat_le 1 (length (a ∷ bs))) h in
    let x = and_parts (not (is_blank a)) (not (is_word_byte a)) q.0 in
    let y = and_parts (not (is_quote a)) (not (is_dollar a)) (and_parts (not (is_quote a) && not (is_dollar a)) (nat_le 1 (length (a ∷ bs))) q.1).0 in
    cond_false (is_blank a) _ _ (not_true (is_blank a) x.0) ∙ cond_false (is_word_byte a) _ _ (not_true (is_word_byte a) x.1)
    ∙ cond_false (is_quote a) _ _ (not_true (is_quote a) y.0) ∙ cond_false (is_dollar a) _ _ (not_true (is_dollar a) y.1)
    ∙ cond_false (opens (a ∷ (bs ++ rest))) _ _ c ∙ cond_false (opens_line (a ∷ (bs ++ rest))) _ _ n ∙ cond_false (opens_word (a ∷ (bs ++ rest))) _ _ w

sign_by : (a : ℕ) (bs rest : List ℕ) (symbol : Symbol) → IsSign (a ∷ bs) rest symbol → Signs (a ∷ bs) rest symbol → Found (a ∷ bs) rest (Some (t.Symbol symbol))
sign_by a bs rest symbol h is = record { some = omega arith; is = sign_first a bs (sign_front (a ∷ bs) symbol h.found) rest h.no_comment h.no_line h.no_word ∙ is }

sign_found : (f rest : List ℕ) (symbol : Symbol) → IsSign f rest symbol → Found f rest (Some (t.Symbol symbol))
sign_found [] rest symbol h = absurd (let q = sign_front [] symbol h.found in cc)
sign_found (a ∷ []) rest symbol h = sign_by a [] rest symbol h (one_sign a rest symbol h)
sign_found (a ∷ (b ∷ [])) rest symbol h = sign_by a (b ∷ []) rest symbol h (two_signs a b rest symbol h)
sign_found (a ∷ (b ∷ (c ∷ []))) rest symbol h = sign_by a (b ∷ (c ∷ [])) rest symbol h (three_signs a b c rest symbol h)
sign_found (a ∷ (b ∷ (c ∷ (d ∷ f)))) rest symbol h = absurd (let q = sign_short (a ∷ (b ∷ (c ∷ (d ∷ f)))) symbol h.found in omega (arith, q))

-- ---- any piece

pub piece_found : {front rest : List ℕ} {o : Option Token} → IsPiece front rest o → Found front rest o
piece_found (l.blank {b} {rest} h) = blank_found b rest h
piece_found (l.line {bs} {rest} run) = line_found bs rest run
piece_found (l.comment {bs} {rest} d) = comment_found bs rest d
piece_found (l.number {b} {bs} {rest} run digits small) = word_found b bs rest _ run (number_word (b ∷ bs) digits small)
piece_found (l.word {bs} {rest} {symbol} run e) = some_word bs rest _ (no_reserved bs symbol e) run (symbol_word bs symbol e)
piece_found (l.name {bs} {rest} run is few) = some_word bs rest _ (no_identifier bs is) run (name_word bs is few)
piece_found (l.underscore {rest} stops) = word_found 95 [] rest _ (record { all = refl; longest = stops }) underscore_word
piece_found (l.string {bs} {string = text} {rest} d) = string_found bs text rest d
piece_found (l.slashed {bs} {rest} {symbol} run e) = slashed_found bs rest symbol run e (slash_letter bs symbol e)
piece_found (l.dollar {bs} {rest} {symbol} run e) = dollar_found bs rest symbol run e
piece_found (l.sign {front} {rest} {symbol} h) = sign_found front rest symbol h
