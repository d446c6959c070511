-- Names, numbers and strings of canonical texts.
use Rattle.std.proofs.Common.{◌≡◌, ◌≤◌, ◌<◌, ◌+◌, ◌-◌, ◌^◌, ℕ, pos, Bool, true, false, ◌&&◌, ◌||◌, not, List, [], ◌∷◌, ◌++◌, length, decimal, refl, ap, sym, ◌∙◌, subst, arith, cond, nat_eq, nat_le}
use Rattle.std.specs.Int.{IsInRange}
use Rattle.std.specs.Fmt.{signed_decimal}
use Rattle.std.proofs.lemmas.Bool.{and_parts, eqb-true, le-leb, leb-true}
use Rattle.std.proofs.lemmas.Bool.Decides.{nat_tests}
use Rattle.std.proofs.lemmas.Str.Parse.{IsDigitsTest, FoldsDigits, IsNumeralModel, numerals_by_fold}
use Rattle.std.proofs.lemmas.Fmt.{digits_decimal, digits_value-decimal, decimal_nonempty}
use Rattle.pgo_model.specs.ValueText.{is_digit, is_letter, is_word_byte, all_word_bytes, has_letter, is_identifier, string_text, all_escaped, is_one_of, reserved_words}
use Rattle.pgo_model.specs.ValueText as v
use Rattle.pgo_lexer.specs.declared.token.Token.{Token}
use Rattle.pgo_lexer.specs.declared.token.Token.TheVariants as t
use Rattle.pgo_lexer.specs.declared.symbol.Bracket.{Bracket}
use Rattle.pgo_lexer.specs.Lexemes.{all_are, value, value_from, largest, is_printed, is_plain, Quoted}
use Rattle.pgo_lexer.specs.Lexemes as l
use Rattle.pgo_expr_write.specs.WellFormed.{IsName, is_string_byte}
use Rattle.pgo_expr_write.proofs.Lexed.{piece, Lexed, single}
use Rattle.pgo_expr_write.proofs.FixedWords.{Ends, Begins, stops}

-- ---- names

word_bytes : (bs : List ℕ) → all_word_bytes bs ≡ true → all_are is_word_byte bs ≡ true
word_bytes [] h = refl
word_bytes (b ∷ bs) h = let q = and_parts (is_word_byte b) (all_word_bytes bs) h in λ i. q.0 i && word_bytes bs q.1 i

pub name_bytes : (x : List ℕ) → is_identifier x ≡ true → all_are is_word_byte x ≡ true
name_bytes x h =
    let q = and_parts (all_word_bytes x && has_letter x) (cond (is_one_of x reserved_words) false true) h in
    word_bytes x (and_parts (all_word_bytes x) (has_letter x) q.0).0

pub name_said : {st : List Bracket} {p : Bool} (x rest : List ℕ) {us : List Token} → IsName x → Ends rest → Lexed st true rest us → Lexed st p (x ++ rest) (t.Name x ∷ us)
name_said [] rest h e d = absurd (let z = h.0 in cc)
name_said (b ∷ bs) rest h e d = single b bs (piece (l.name (record { all = name_bytes (b ∷ bs) h.0; longest = stops rest e }) h.0 h.1)) refl refl d

-- a byte of a word is none that isn't
apart : (b k : ℕ) (c : Bool) → nat_eq b k ≡ c → is_word_byte b ≡ true → is_word_byte k ≡ false → nat_eq b k ≡ false
apart b k false e h n = e
apart b k true e h n = absurd (let z = sym (ap is_word_byte (eqb-true b k e)) ∙ h in let w = sym n ∙ z in cc)

word_begins : (b : ℕ) (bs : List ℕ) → is_word_byte b ≡ true → Begins (b ∷ bs)
word_begins b bs h = (apart b 42 (nat_eq b 42) refl h refl, apart b 62 (nat_eq b 62) refl h refl, apart b 93 (nat_eq b 93) refl h refl)

pub name_begins : (x rest : List ℕ) → IsName x → Begins (x ++ rest)
name_begins [] rest h = absurd (let z = h.0 in cc)
name_begins (b ∷ bs) rest h = word_begins b (bs ++ rest) (and_parts (is_word_byte b) (all_are is_word_byte bs) (name_bytes (b ∷ bs) h.0)).0

pub no_dot : (b : ℕ) (bs : List ℕ) → IsName (b ∷ bs) → nat_eq b 46 ≡ false
no_dot b bs h = apart b 46 (nat_eq b 46) refl (and_parts (is_word_byte b) (all_are is_word_byte bs) (name_bytes (b ∷ bs) h.0)).0 refl

-- ---- numbers

AreDigits : List ℕ → Type 0
AreDigits ds = all_are is_digit ds ≡ true

pub digit_range : (c : ℕ) → is_digit c ≡ true → IsInRange 48 57 c
digit_range c h = let p = and_parts (nat_le 48 c) (nat_le c 57) h in (leb-true 48 c p.0, leb-true c 57 p.1)

tells : IsDigitsTest AreDigits
unfolding AreDigits
tells = record {
  empty = refl;
  parts = λ c cs e. let k = and_parts (is_digit c) (all_are is_digit cs) e in (digit_range c k.0, k.1);
  more = λ c cs k e i. (le-leb 48 c k.0 i && le-leb c 57 k.1 i) && e i;
}

folds : FoldsDigits value_from
folds = record { empty = λ n. refl; more = λ n c cs k. refl }

own : IsNumeralModel AreDigits value
own = numerals_by_fold AreDigits tells value_from folds

or_digit : (x y : Bool) → ((x || true) || y) ≡ true
or_digit true y = refl
or_digit false y = refl

digit_is_word : (b : ℕ) → is_digit b ≡ true → is_word_byte b ≡ true
digit_is_word b h = ap (λ z. (is_letter b || z) || nat_eq b 95) h ∙ or_digit (is_letter b) (nat_eq b 95)

digits_are_words : (bs : List ℕ) → all_are is_digit bs ≡ true → all_are is_word_byte bs ≡ true
digits_are_words [] h = refl
digits_are_words (b ∷ bs) h = let q = and_parts (is_digit b) (all_are is_digit bs) h in λ i. digit_is_word b q.0 i && digits_are_words bs q.1 i

digits_said : {st : List Bracket} {p : Bool} (ds : List ℕ) (n : ℕ) (rest : List ℕ) {us : List Token} → 0 < length ds → all_are is_digit ds ≡ true → value ds ≡ n → n ≤ largest → Ends rest
    → Lexed st true rest us → Lexed st p (ds ++ rest) (t.Number (pos n) ∷ us)
digits_said [] n rest some h is small e d = absurd (omega arith)
digits_said {st} {p} (b ∷ bs) n rest {us} some h is small e d =
    let P : ℕ → Type 0 = λ m. Lexed st p (b ∷ (bs ++ rest)) (t.Number (pos m) ∷ us) in
    subst P is (single b bs (piece (l.number (record { all = digits_are_words (b ∷ bs) h; longest = stops rest e }) h (omega (arith, is, small)))) refl refl d)

pub number_said : {st : List Bracket} {p : Bool} (n : ℕ) (rest : List ℕ) {us : List Token} → n ≤ largest → Ends rest → Lexed st true rest us → Lexed st p (signed_decimal (pos n) ++ rest) (t.Number (pos n) ∷ us)
unfolding AreDigits
number_said n rest small e d =
    let h : n < 2 ^ 64 = omega (arith, small) in
    digits_said (decimal n) n rest (decimal_nonempty n h) (digits_decimal own n h) (digits_value-decimal own n h) small e d

digits_begin : (ds rest : List ℕ) → 0 < length ds → all_are is_digit ds ≡ true → Begins (ds ++ rest)
digits_begin [] rest some h = absurd (omega arith)
digits_begin (b ∷ bs) rest some h = word_begins b (bs ++ rest) (digit_is_word b (and_parts (is_digit b) (all_are is_digit bs) h).0)

pub number_begins : (n : ℕ) (rest : List ℕ) → n ≤ largest → Begins (signed_decimal (pos n) ++ rest)
unfolding AreDigits
number_begins n rest small =
    let h : n < 2 ^ 64 = omega (arith, small) in
    digits_begin (decimal n) rest (decimal_nonempty n h) (digits_decimal own n h)

-- ---- strings

cond_false : {A : Type 0} (b : Bool) (x y : A) → b ≡ false → cond b x y ≡ y
cond_false true x y h = cc
cond_false false x y h = refl

module _ (bs s : List ℕ) (d : Quoted bs s) where
  abbrev IsQuoted : ℕ → Type 0
  IsQuoted b = Quoted (v.escaped b ++ bs) (b ∷ s)

  plain_byte : (b : ℕ) → is_string_byte b ≡ true → nat_eq b 34 ≡ false → nat_eq b 92 ≡ false → nat_eq b 10 ≡ false → nat_eq b 9 ≡ false → IsQuoted b
  plain_byte b h e34 e92 e10 e9 =
      let shape : v.escaped b ≡ b ∷ [] = cond_false _ _ _ e34 ∙ cond_false _ _ _ e92 ∙ cond_false _ _ _ e10 ∙ cond_false _ _ _ e9 in
      let printed : is_printed b ≡ true = grind (arith, nat_tests, h, e9, e10) in
      let is : is_plain b ≡ true = λ i. printed i && (not (e34 i) && not (e92 i)) in
      let P : List ℕ → Type 0 = λ z. Quoted (z ++ bs) (b ∷ s) in
      subst P (sym shape) (l.plain is d)

  by_tab : (b : ℕ) → is_string_byte b ≡ true → nat_eq b 34 ≡ false → nat_eq b 92 ≡ false → nat_eq b 10 ≡ false → (c : Bool) → nat_eq b 9 ≡ c → IsQuoted b
  by_tab b h e34 e92 e10 true e = subst IsQuoted (sym (eqb-true b 9 e)) (l.escape refl d)
  by_tab b h e34 e92 e10 false e = plain_byte b h e34 e92 e10 e

  by_newline : (b : ℕ) → is_string_byte b ≡ true → nat_eq b 34 ≡ false → nat_eq b 92 ≡ false → (c : Bool) → nat_eq b 10 ≡ c → IsQuoted b
  by_newline b h e34 e92 true e = subst IsQuoted (sym (eqb-true b 10 e)) (l.escape refl d)
  by_newline b h e34 e92 false e = by_tab b h e34 e92 e (nat_eq b 9) refl

  by_slash : (b : ℕ) → is_string_byte b ≡ true → nat_eq b 34 ≡ false → (c : Bool) → nat_eq b 92 ≡ c → IsQuoted b
  by_slash b h e34 true e = subst IsQuoted (sym (eqb-true b 92 e)) (l.escape refl d)
  by_slash b h e34 false e = by_newline b h e34 e (nat_eq b 10) refl

  by_quote : (b : ℕ) → is_string_byte b ≡ true → (c : Bool) → nat_eq b 34 ≡ c → IsQuoted b
  by_quote b h true e = subst IsQuoted (sym (eqb-true b 34 e)) (l.escape refl d)
  by_quote b h false e = by_slash b h e (nat_eq b 92) refl

quoted : (s : List ℕ) → all_are is_string_byte s ≡ true → Quoted (all_escaped s) s
quoted [] h = l.none
quoted (b ∷ s) h =
    let q = and_parts (is_string_byte b) (all_are is_string_byte s) h in
    by_quote (all_escaped s) s (quoted s q.1) b q.0 (nat_eq b 34) refl

pub string_said : {st : List Bracket} {p : Bool} (s rest : List ℕ) {us : List Token} → all_are is_string_byte s ≡ true → Lexed st true rest us → Lexed st p (string_text s ++ rest) (t.Text s ∷ us)
string_said s rest h d = single 34 (all_escaped s ++ 34 ∷ []) (piece (l.string (quoted s h))) refl refl d
