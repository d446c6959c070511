-- What holds of each row of a table holds of what is found in it.
use Rattle.std.proofs.Common.{◌≡◌, ◌≤◌, ◌<◌, ℕ, Bool, true, false, not, ◌&&◌, ◌||◌, cond, nat_le, List, [], ◌∷◌, length, Option, Some, None, refl, ◌∙◌, ap, arith}
use Rattle.std.proofs.lemmas.Bool.{and_parts, leb-true}
use Rattle.pgo_model.specs.ValueText.{same_bytes, is_one_of, reserved_words, is_digit, is_letter, is_word_byte, has_letter}
use Rattle.pgo_model.specs.Names.{same_bytes-is}
use Rattle.pgo_lexer.specs.declared.symbol.Symbol.{Symbol}
use Rattle.pgo_lexer.specs.Symbols.{Row, find, reserved, signs, slash_words}
use Rattle.pgo_lexer.specs.Lexemes.{all_are, is_blank}
use Rattle.pgo_lexer.specs.Pieces.{begins, is_quote, is_dollar}
use Rattle.pgo_lexer.proofs.Runs.{if_some, no_some, cond_false}

abbrev pub all_rows : (List ℕ → Bool) → List Row → Bool
all_rows p [] = true
all_rows p (r ∷ rs) = p r.0 && all_rows p rs

pub found_holds : (p : List ℕ → Bool) (x : List ℕ) (rows : List Row) (s : Symbol) → all_rows p rows ≡ true → find x rows ≡ Some s → p x ≡ true
found_holds p x [] s h e = no_some s _ e
found_holds p x (r ∷ rs) s h e =
    let q = and_parts (p r.0) (all_rows p rs) h in
    if_some (same_bytes x r.0) (Some r.1) (find x rs) s (p x ≡ true) e
    (λ same _. ap p (same_bytes-is x r.0 same) ∙ q.0) (λ _ e. found_holds p x rs s q.1 e)

-- where nothing is found no row has the spelling
abbrev pub spellings : List Row → List (List ℕ)
spellings [] = []
spellings (r ∷ rs) = r.0 ∷ spellings rs

pub not_found : (x : List ℕ) (rows : List Row) → find x rows ≡ None → is_one_of x (spellings rows) ≡ false
not_found x [] e = refl
not_found x (r ∷ rs) e = go (same_bytes x r.0) refl e (λ e. not_found x rs e)
  where
    go : (v : Bool) → same_bytes x r.0 ≡ v → cond v (Some r.1) (find x rs) ≡ None → (find x rs ≡ None → is_one_of x (spellings rs) ≡ false) → (same_bytes x r.0 || is_one_of x (spellings rs)) ≡ false
    go true same e ih = absurd (cc)
    go false other e ih = (λ i. other i || is_one_of x (spellings rs)) ∙ ih e

pub none_found : (x : List ℕ) (rows : List Row) → is_one_of x (spellings rows) ≡ false → find x rows ≡ None
none_found x [] e = refl
none_found x (r ∷ rs) e = go (same_bytes x r.0) refl e (λ e. none_found x rs e)
  where
    go : (v : Bool) → same_bytes x r.0 ≡ v → (v || is_one_of x (spellings rs)) ≡ false → (is_one_of x (spellings rs) ≡ false → find x rs ≡ None) → find x (r ∷ rs) ≡ None
    go true same e ih = absurd (cc)
    go false other e ih = cond_false _ _ _ other ∙ ih e

pub reserved_are : spellings reserved ≡ reserved_words
reserved_are = refl

-- a reserved word has a letter, and isn't made of digits
abbrev pub is_lettered : List ℕ → Bool
is_lettered x = has_letter x && not (all_are is_digit x)

pub reserved_lettered : (x : List ℕ) (s : Symbol) → find x reserved ≡ Some s → is_lettered x ≡ true
reserved_lettered x s e = found_holds is_lettered x reserved s refl e

-- a sign has one to three bytes, of which the first is no blank, no word byte, no quote and no `$`
abbrev pub is_short : List ℕ → Bool
is_short x = nat_le (length x) 3

abbrev pub is_front : List ℕ → Bool
is_front x = (not (begins is_blank x) && not (begins is_word_byte x)) && ((not (begins is_quote x) && not (begins is_dollar x)) && nat_le 1 (length x))

pub sign_short : (x : List ℕ) (s : Symbol) → find x signs ≡ Some s → length x ≤ 3
sign_short x s e = leb-true (length x) 3 (found_holds is_short x signs s refl e)

pub sign_front : (x : List ℕ) (s : Symbol) → find x signs ≡ Some s → is_front x ≡ true
sign_front x s e = found_holds is_front x signs s refl e

-- longer bytes are no sign
pub no_sign : (x : List ℕ) → 3 < length x → find x signs ≡ None
no_sign x long = go (find x signs) refl
  where
    go : (o : Option Symbol) → find x signs ≡ o → find x signs ≡ None
    go None e = e
    go (Some s) e = absurd (let short = sign_short x s e in omega arith)

-- a word behind `\` begins with a letter
abbrev pub begins_letter : List ℕ → Bool
begins_letter x = begins is_letter x

pub slash_letter : (x : List ℕ) (s : Symbol) → find x slash_words ≡ Some s → begins is_letter x ≡ true
slash_letter x s e = found_holds begins_letter x slash_words s refl e
