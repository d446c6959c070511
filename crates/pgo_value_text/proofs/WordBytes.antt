-- Words, and the bytes that a part begins with.
use Rattle.std.proofs.Common.{◌≡◌, ℕ, Bool, true, false, ◌&&◌, ◌||◌, cond, nat_eq, nat_le, List, [], ◌∷◌, length, ⊎_elim, refl, sym, ap, arith}
use Rattle.std.specs.Prelude.{codes}
use Rattle.std.proofs.lemmas.Bool.{eqb-true, ne_eqb, leb-true, and_parts, and_from, and_left, or_parts, or_from, or_right, or_cases, cases_Bool}
use Rattle.pgo_model.specs.ValueText.{is_digit, is_letter, is_word_byte, all_word_bytes, has_letter, same_bytes, is_one_of, reserved_words, is_identifier}
use Rattle.pgo_value_text.specs.IsValueText.{is_blank, is_name, all_digits, are_digits}
use Rattle.pgo_value_text.proofs.Numbers.{digit_range, all_of_some}

pub same_is : (x w : List ℕ) → same_bytes x w ≡ true → x ≡ w
same_is [] [] h = refl
same_is [] (y ∷ ys) h = absurd (cc)
same_is (x ∷ xs) [] h = absurd (cc)
same_is (x ∷ xs) (y ∷ ys) h =
    let p = and_parts (nat_eq x y) (same_bytes xs ys) h in
    let first = eqb-true x y p.0 in
    let rest = same_is xs ys p.1 in λ i. first i ∷ rest i

pub not_same : (b k : ℕ) (bs ws : List ℕ) → (b ≡ k → ⊥) → same_bytes (b ∷ bs) (k ∷ ws) ≡ false
not_same b k bs ws h = and_left (nat_eq b k) (same_bytes bs ws) (ne_eqb b k h)

-- a word byte is none of the others
pub other_byte : (b k : ℕ) → is_word_byte b ≡ true → is_word_byte k ≡ false → b ≡ k → ⊥
other_byte b k h g e = let s : is_word_byte b ≡ is_word_byte k = ap is_word_byte e in cc

pub no_byte : (b k : ℕ) → is_word_byte b ≡ true → is_word_byte k ≡ false → nat_eq k b ≡ false
no_byte b k h g = ne_eqb k b (λ e. other_byte b k h g (sym e))

left_or : (a b : Bool) → a ≡ true → (a || b) ≡ true
left_or true b h = refl
left_or false b h = absurd (cc)

pub no_blank : (b : ℕ) → is_word_byte b ≡ true → is_blank b ≡ false
no_blank b h = or_from (nat_eq b 32) (nat_eq b 9) (ne_eqb b 32 (other_byte b 32 h refl)) (ne_eqb b 9 (other_byte b 9 h refl))

pub blank_apart : (b : ℕ) → is_blank b ≡ true → is_word_byte b ≡ false
blank_apart b h =
    ⊎_elim (λ w. let n = no_blank b w in absurd (cc)) (λ f. f) (cases_Bool (is_word_byte b))

pub digit_word : (b : ℕ) → is_digit b ≡ true → is_word_byte b ≡ true
digit_word b h = left_or (is_letter b || is_digit b) (nat_eq b 95) (or_right (is_letter b) (is_digit b) h)

pub digits_words : (ds : List ℕ) → all_digits ds ≡ true → all_word_bytes ds ≡ true
digits_words [] h = refl
digits_words (b ∷ bs) h =
    let p = and_parts (is_digit b) (all_digits bs) h in and_from (is_word_byte b) (all_word_bytes bs) (digit_word b p.0) (digits_words bs p.1)

-- ---- names

name_identifier : (x : List ℕ) → is_name x ≡ true → is_identifier x ≡ true
name_identifier x h = (and_parts (is_identifier x) (nat_le (length x) 512) h).0

pub name_words : (x : List ℕ) → is_name x ≡ true → all_word_bytes x ≡ true
name_words x h =
    let q = and_parts (all_word_bytes x && has_letter x) _ (name_identifier x h) in
    (and_parts (all_word_bytes x) (has_letter x) q.0).0

name_letter : (x : List ℕ) → is_name x ≡ true → has_letter x ≡ true
name_letter x h =
    let q = and_parts (all_word_bytes x && has_letter x) _ (name_identifier x h) in
    (and_parts (all_word_bytes x) (has_letter x) q.0).1

not_chosen : (b : Bool) → cond b false true ≡ true → b ≡ false
not_chosen true h = sym h
not_chosen false h = refl

name_free : (x : List ℕ) → is_name x ≡ true → is_one_of x reserved_words ≡ false
name_free x h = not_chosen _ (and_parts (all_word_bytes x && has_letter x) (cond (is_one_of x reserved_words) false true) (name_identifier x h)).1

pub name_no_truth : (x : List ℕ) → is_name x ≡ true → (same_bytes x (codes "TRUE") ≡ false) × (same_bytes x (codes "FALSE") ≡ false)
name_no_truth x h =
    let p = or_parts (same_bytes x (codes "TRUE")) _ (name_free x h) in
    let q = or_parts (same_bytes x (codes "FALSE")) _ p.1 in (p.0, q.0)

letter_digit : (b : ℕ) → is_letter b ≡ true → is_digit b ≡ true → ⊥
letter_digit b l d =
    let r = digit_range b d in
    ⊎_elim
    (λ u. let k = leb-true 65 b (and_parts (nat_le 65 b) (nat_le b 90) u).0 in omega (arith, r.1))
    (λ u. let k = leb-true 97 b (and_parts (nat_le 97 b) (nat_le b 122) u).0 in omega (arith, r.1))
    (or_cases (nat_le 65 b && nat_le b 90) (nat_le 97 b && nat_le b 122) l)

no_digits : (x : List ℕ) → has_letter x ≡ true → all_digits x ≡ true → ⊥
no_digits [] h d = cc
no_digits (b ∷ bs) h d =
    let p = and_parts (is_digit b) (all_digits bs) d in
    ⊎_elim (λ l. letter_digit b l p.0) (λ l. no_digits bs l p.1) (or_cases (is_letter b) (has_letter bs) h)

pub name_no_digits : (x : List ℕ) → is_name x ≡ true → are_digits x ≡ false
name_no_digits x h = ⊎_elim (λ d. absurd (no_digits x (name_letter x h) (all_of_some x d))) (λ f. f) (cases_Bool (are_digits x))
