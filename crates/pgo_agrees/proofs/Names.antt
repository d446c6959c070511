-- Names that no expansion makes.
use Rattle.std.proofs.Common.{◌≡◌, ◌≤◌, ℕ, Bool, true, false, ◌&&◌, ◌||◌, if◌then◌else◌, nat_eq, [], ◌∷◌, ◌++◌, codes, refl, ap, sym, ◌∙◌, arith}
use Rattle.std.specs.Prelude.{nat_le}
use Rattle.std.proofs.lemmas.Bool.{or_from}
use Rattle.pgo_base.specs.Lookup.{Name}
use Rattle.pgo_model.specs.Written.{written}
use Rattle.pgo_scope.specs.Underscores.{has_double}
use Rattle.pgo_sections.specs.PlainTest.{digits_behind, looks_made}
use Rattle.pgo_sections.specs.WellFormed.{NotMade}
use Rattle.pgo_sections.proofs.PlainTest.{not_made}
use Rattle.pgo_model.specs.ValueText.{is_digit, all_digits, is_letter, all_word_bytes, has_letter, is_identifier, is_one_of, reserved_words}

pub or_left : (a b : Bool) → a || b ≡ false → a ≡ false
or_left true b h = absurd (cc)
or_left false b h = refl

pub or_right : (a b : Bool) → a || b ≡ false → b ≡ false
or_right true b h = absurd (cc)
or_right false b h = h

pub and_left : (a b : Bool) → a && b ≡ true → a ≡ true
and_left true b h = refl
and_left false b h = absurd (cc)

pub and_right : (a b : Bool) → a && b ≡ true → b ≡ true
and_right true b h = h
and_right false b h = absurd (cc)

and_false : (a b : Bool) → b ≡ false → a && b ≡ false
and_false true b h = h
and_false false b h = refl

two_marks : (p q d l : Bool) → p && q ≡ false → l ≡ false → (p && (q && d)) || l ≡ false
two_marks true true d l h g = absurd (cc)
two_marks true false d l h g = g
two_marks false q d l h g = g

pub one_mark : (p : Bool) → (p && false) || false ≡ false
one_mark true = refl
one_mark false = refl

-- without two underscores in a row
pub looks_single : (x : Name) → has_double x ≡ false → looks_made x ≡ false
looks_single [] h = refl
looks_single (b ∷ []) h = one_mark (nat_eq b 95)
looks_single (b ∷ c ∷ cs) h =
    let two = nat_eq b 95 && nat_eq c 95 in
    two_marks (nat_eq b 95) (nat_eq c 95) (all_digits cs) (looks_made (c ∷ cs)) (or_left two (has_double (c ∷ cs)) h) (looks_single (c ∷ cs) (or_right two (has_double (c ∷ cs)) h))

pub single : (x : Name) → has_double x ≡ false → NotMade x
single x h = not_made x (looks_single x h)

-- ---- identifiers

pub identifier_letter : (x : Name) → is_identifier x ≡ true → has_letter x ≡ true
identifier_letter x h =
    and_right (all_word_bytes x) (has_letter x) (and_left (all_word_bytes x && has_letter x) (if is_one_of x reserved_words then false else true) h)

pub identifier_bytes : (x : Name) → is_identifier x ≡ true → all_word_bytes x ≡ true
identifier_bytes x h =
    and_left (all_word_bytes x) (has_letter x) (and_left (all_word_bytes x && has_letter x) (if is_one_of x reserved_words then false else true) h)

-- ---- behind a letter

at_least : (a b : ℕ) → nat_le a b ≡ true → a ≤ b
at_least a b h = grind (arith, h)

no_digit : (b : ℕ) → is_letter b ≡ true → is_digit b ≡ false
no_digit b h = go (nat_le 65 b) (nat_le 97 b) (nat_le b 57) refl refl refl h
  where
    go : (p q r : Bool) → nat_le 65 b ≡ p → nat_le 97 b ≡ q → nat_le b 57 ≡ r → (p && nat_le b 90) || (q && nat_le b 122) ≡ true → nat_le 48 b && r ≡ false
    go p q false e f g k = and_false (nat_le 48 b) false refl
    go true q true e f g k = absurd (let i = at_least 65 b e in let j = at_least b 57 g in omega (arith, i, j))
    go false true true e f g k = absurd (let i = at_least 97 b f in let j = at_least b 57 g in omega (arith, i, j))
    go false false true e f g k = absurd (cc)

letter_ends : (x : Name) → has_letter x ≡ true → all_digits x ≡ false
letter_ends [] h = absurd (cc)
letter_ends (b ∷ bs) h = go (is_letter b) refl h (letter_ends bs)
  where
    go : (c : Bool) → is_letter b ≡ c → c || has_letter bs ≡ true → (has_letter bs ≡ true → all_digits bs ≡ false) → is_digit b && all_digits bs ≡ false
    go true e k more = ap (λ d. d && all_digits bs) (no_digit b e)
    go false e k more = and_false (is_digit b) (all_digits bs) (more k)

digits_end : (ys x : Name) → has_letter x ≡ true → all_digits (ys ++ x) ≡ false
digits_end [] x h = letter_ends x h
digits_end (y ∷ ys) x h = and_false (is_digit y) (all_digits (ys ++ x)) (digits_end ys x h)

mark_is : (b : ℕ) → nat_eq b 95 ≡ true → is_letter b ≡ false
mark_is b h = let e : b ≡ 95 = grind (arith, h) in ap is_letter e

no_digits_behind : (x : Name) → has_letter x ≡ true → digits_behind x ≡ false
no_digits_behind [] h = refl
no_digits_behind (c ∷ cs) h = go (nat_eq c 95) refl
  where
    go : (d : Bool) → nat_eq c 95 ≡ d → d && all_digits cs ≡ false
    go true e = letter_ends cs (ap (λ l. l || has_letter cs) (sym (mark_is c e)) ∙ h)
    go false e = refl

behind_ends : (ys x : Name) → has_letter x ≡ true → digits_behind (ys ++ x) ≡ false
behind_ends [] x h = no_digits_behind x h
behind_ends (y ∷ ys) x h = and_false (nat_eq y 95) (all_digits (ys ++ x)) (digits_end ys x h)

looks_behind : (ys x : Name) → has_double x ≡ false → has_letter x ≡ true → looks_made (ys ++ x) ≡ false
looks_behind [] x d h = looks_single x d
looks_behind (y ∷ ys) x d h =
    or_from (nat_eq y 95 && digits_behind (ys ++ x)) (looks_made (ys ++ x)) (and_false (nat_eq y 95) (digits_behind (ys ++ x)) (behind_ends ys x h)) (looks_behind ys x d h)

-- what a process writes its own names as
pub written_single : (p x : Name) → has_double x ≡ false → has_letter x ≡ true → NotMade (written p x)
written_single p x d h = not_made (written p x) (looks_behind (p ++ codes "_") x d h)

-- ---- names with an underscore

abbrev pub has_mark : Name → Bool
has_mark [] = false
has_mark (b ∷ bs) = nat_eq b 95 || has_mark bs

or_true : (a : Bool) → a || true ≡ true
or_true true = refl
or_true false = refl

pub written_marked : (p x : Name) → has_mark (written p x) ≡ true
written_marked [] x = refl
written_marked (b ∷ bs) x = ap (λ c. nat_eq b 95 || c) (written_marked bs x) ∙ or_true (nat_eq b 95)
