-- Names that a module is written with are identifiers of at most 512 bytes: short ones, `P_x`, and made names.
use Rattle.std.proofs.Common.{◌≡◌, ◌≤◌, ◌<◌, ◌+◌, ◌/◌, ◌%◌, ◌==◌, ℕ, zero, suc, Bool, true, false, ◌&&◌, ◌||◌, if◌then◌else◌, nat_eq, nat_lt, List, [], ◌∷◌, ◌++◌, length, decimal, refl, ap, sym, ◌∙◌, subst, arith, length-append, append_assoc, mod-lt, cond}
use Rattle.std.specs.Fmt.{digits, digits_onto, digit_glyph}
use Rattle.std.proofs.lemmas.Bool.{and_parts}
use Rattle.std.proofs.lemmas.Bool.Decides.{nat_tests}
use Rattle.std.proofs.lemmas.Fmt.{length-decimal-le}
use Rattle.pgo_base.specs.Lookup.{Name}
use Rattle.pgo_lexer.specs.Lexemes.{all_are}
use Rattle.pgo_model.specs.Names.{same_bytes-is}
use Rattle.pgo_model.specs.ValueText.{is_letter, is_word_byte, all_word_bytes, has_letter, same_bytes, is_one_of, reserved_words, is_identifier}
use Rattle.pgo_model.specs.Written.{made, self_name, written}
use Rattle.pgo_expr_write.specs.WellFormed.{IsName, is_string_byte}
use Rattle.pgo_written.specs.FormedCode.{IsShort, IsBase, IsText}

-- ---- bytes

word_append : (x y : Name) → all_word_bytes x ≡ true → all_word_bytes y ≡ true → all_word_bytes (x ++ y) ≡ true
word_append [] y h k = k
word_append (b ∷ bs) y h k =
    let p = and_parts (is_word_byte b) (all_word_bytes bs) h in ap (λ t. t && all_word_bytes (bs ++ y)) p.0 ∙ word_append bs y p.1 k

letter_append : (x y : Name) → has_letter x ≡ true → has_letter (x ++ y) ≡ true
letter_append [] y h = absurd (cc)
letter_append (b ∷ bs) y h = go (is_letter b) (λ k. letter_append bs y k) h
  where
    go : (t : Bool) → (has_letter bs ≡ true → has_letter (bs ++ y) ≡ true) → t || has_letter bs ≡ true → t || has_letter (bs ++ y) ≡ true
    go true f h = refl
    go false f h = f h

digit_word : (d : ℕ) → d < 10 → is_word_byte (digit_glyph false d) ≡ true
digit_word d h = go (nat_lt d 10) refl
  where
    go : (b : Bool) → nat_lt d 10 ≡ b → is_word_byte (if b then 48 + d else (if false then 55 + d else 87 + d)) ≡ true
    go true e = grind (arith, h)
    go false e = absurd (grind (arith, h, e))

onto_words : (k n : ℕ) (acc : List ℕ) → all_word_bytes acc ≡ true → all_word_bytes (digits_onto k 10 false n acc) ≡ true
onto_words zero n acc h = h
onto_words (suc k) n acc h =
    let here : all_word_bytes (digit_glyph false (n % 10) ∷ acc) ≡ true = (let pos : 0 < 10 = omega arith in ap (λ b. b && all_word_bytes acc) (digit_word (n % 10) (mod-lt n pos)) ∙ h) in
    go (n / 10 == 0) here (onto_words k (n / 10) (digit_glyph false (n % 10) ∷ acc) here)
  where
    go : (b : Bool) → all_word_bytes (digit_glyph false (n % 10) ∷ acc) ≡ true → all_word_bytes (digits_onto k 10 false (n / 10) (digit_glyph false (n % 10) ∷ acc)) ≡ true → all_word_bytes (if b then digit_glyph false (n % 10) ∷ acc else digits_onto k 10 false (n / 10) (digit_glyph false (n % 10) ∷ acc)) ≡ true
    go true x y = x
    go false x y = y

decimal_words : (n : ℕ) → all_word_bytes (decimal n) ≡ true
unfolding digits
decimal_words n = onto_words 64 n [] refl

-- ---- no reserved word has a `_`

abbrev has_underscore : Name → Bool
has_underscore [] = false
has_underscore (b ∷ bs) = nat_eq b 95 || has_underscore bs

abbrev none_has : List Name → Bool
none_has [] = true
none_has (w ∷ ws) = (if has_underscore w then false else true) && none_has ws

not_one_of : (x : Name) (ws : List Name) → has_underscore x ≡ true → none_has ws ≡ true → is_one_of x ws ≡ false
not_one_of x [] some h = refl
not_one_of x (w ∷ ws) some h =
    let p = and_parts (if has_underscore w then false else true) (none_has ws) h in go (same_bytes x w) refl (has_underscore w) refl p.0 (not_one_of x ws some p.1)
  where
    go : (t : Bool) → same_bytes x w ≡ t → (u : Bool) → has_underscore w ≡ u → (if u then false else true) ≡ true → is_one_of x ws ≡ false → t || is_one_of x ws ≡ false
    go true e true f k rest = absurd (cc)
    go true e false f k rest = let same : has_underscore x ≡ has_underscore w = ap has_underscore (same_bytes-is x w e) in absurd (let q : true ≡ false = sym some ∙ same ∙ f in cc)
    go false e u f k rest = rest

underscore_behind : (x y : Name) → has_underscore y ≡ true → has_underscore (x ++ y) ≡ true
underscore_behind [] y h = h
underscore_behind (b ∷ bs) y h = go (nat_eq b 95) (underscore_behind bs y h)
  where
    go : (t : Bool) → has_underscore (bs ++ y) ≡ true → t || has_underscore (bs ++ y) ≡ true
    go true h = refl
    go false h = h

underscored : (x y : Name) → has_underscore (x ++ (95 ∷ y)) ≡ true
underscored x y = underscore_behind x (95 ∷ y) refl

identifier_of : (x : Name) → all_word_bytes x ≡ true → has_letter x ≡ true → has_underscore x ≡ true → is_identifier x ≡ true
identifier_of x bytes letter some =
    ap (λ t. t && has_letter x && (if is_one_of x reserved_words then false else true)) bytes
    ∙ ap (λ t. t && (if is_one_of x reserved_words then false else true)) letter
    ∙ ap (λ t. if t then false else true) (not_one_of x reserved_words some refl)

pub identifier_parts : (x : Name) → is_identifier x ≡ true → (all_word_bytes x ≡ true) × (has_letter x ≡ true)
identifier_parts x h =
    and_parts (all_word_bytes x) (has_letter x) (and_parts (all_word_bytes x && has_letter x) (cond (is_one_of x reserved_words) false true) h).0

-- ---- names

pub short_base : (x : Name) → IsShort x → IsBase x
short_base x h = (h.0, omega (arith, h.1))

pub base_name : (x : Name) → IsBase x → IsName x
base_name x h = (h.0, omega (arith, h.1))

pub short_name : (x : Name) → IsShort x → IsName x
short_name x h = (h.0, omega (arith, h.1))

-- two parts, with `_` between them
joined_word : (p x : Name) → is_identifier p ≡ true → all_word_bytes x ≡ true → is_identifier (p ++ (95 ∷ x)) ≡ true
joined_word p x h g =
    let a = identifier_parts p h in identifier_of (p ++ (95 ∷ x)) (word_append p (95 ∷ x) a.0 g) (letter_append p (95 ∷ x) a.1) (underscored p x)

-- `P_x`
pub written_base : (p x : Name) → IsShort p → IsShort x → IsBase (written p x)
written_base p x h g =
    subst IsBase (sym (append_assoc p (95 ∷ []) x)) (joined_word p x h.0 (identifier_parts x g.0).0, (let e = length-append p (95 ∷ x) in omega (arith, e, h.1, g.1)))

-- `base__n`, where n is at most 1,048,576
pub made_name : (b : Name) (n : ℕ) → IsBase b → n ≤ 1048576 → IsName (made b n)
made_name b n h small =
    subst IsName (sym (append_assoc b (95 ∷ 95 ∷ []) (decimal n))) (joined_word b (95 ∷ decimal n) h.0 (decimal_words n), short)
  where
    short : length (b ++ (95 ∷ 95 ∷ decimal n)) ≤ 512
    short =
        let e = length-append b (95 ∷ 95 ∷ decimal n) in
        let d = length-decimal-le 7 n (omega arith) (omega (arith, small)) (omega (arith, small)) in
        omega (arith, e, d, h.1)

pub self_is_name : IsName self_name
self_is_name = (refl, omega arith)

-- ---- texts

word_text : (b : ℕ) → is_word_byte b ≡ true → is_string_byte b ≡ true
word_text b h = grind (arith, nat_tests)

words_text : (x : Name) → all_word_bytes x ≡ true → IsText x
words_text [] h = refl
words_text (b ∷ bs) h =
    let p = and_parts (is_word_byte b) (all_word_bytes bs) h in ap (λ t. t && all_are is_string_byte bs) (word_text b p.0) ∙ words_text bs p.1

pub name_text : (x : Name) → IsName x → IsText x
name_text x h = words_text x (identifier_parts x h.0).0

text_append : (x y : Name) → IsText x → IsText y → IsText (x ++ y)
text_append [] y h k = k
text_append (b ∷ bs) y h k =
    let p = and_parts (is_string_byte b) (all_are is_string_byte bs) h in ap (λ t. t && all_are is_string_byte (bs ++ y)) p.0 ∙ text_append bs y p.1 k

pub written_text : (p x : Name) → IsText p → IsShort x → IsText (written p x)
written_text p x h g = subst IsText (sym (append_assoc p (95 ∷ []) x)) (text_append p (95 ∷ x) h (name_text x (short_name x g)))
