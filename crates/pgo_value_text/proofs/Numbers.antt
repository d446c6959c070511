-- Numbers: what the reader makes of digits.
use Rattle.std.proofs.Common.{◌≡◌, ◌≤◌, ◌<◌, ◌+◌, ◌*◌, ◌-◌, ◌^◌, ℕ, zero, suc, ℤ, pos, true, ◌&&◌, nat_lt, nat_le, List, [], ◌∷◌, length, decimal, Some, option_and_then, refl, sym, ◌∙◌, ap, subst, arith}
use Rattle.std.specs.Int.{IsInRange}
use Rattle.std.proofs.lemmas.Bool.{ltb-true, ltb-false, le-ltb, le-leb, leb-true, and_parts, and_from}
use Rattle.std.proofs.lemmas.Option.{option_and_then_some}
use Rattle.std.proofs.lemmas.Str.Parse.{IsDigitsTest, FoldsDigits, IsNumeralModel, numerals_by_fold}
use Rattle.std.proofs.lemmas.Fmt.{digits_decimal, digits_value-decimal, decimal_nonempty}
use Rattle.pgo_model.specs.Operators.{fits_i64}
use Rattle.pgo_model.specs.ValueText.{is_digit}
use Rattle.pgo_value_text.specs.IsValueText.{all_digits, are_digits, number_from, number_of, minus}
use Rattle.pgo_value_text.specs.Reading.{most, natural_from, fitting, positive, negative}
use Rattle.pgo_value_text.proofs.Steps.{if_some, cond_true, cond_false}

unfoldable pub AreDigits : List ℕ → Type 0
AreDigits ds = all_digits ds ≡ true

pub digit_range : (c : ℕ) → is_digit c ≡ true → IsInRange 48 57 c
digit_range c h = let p = and_parts (nat_le 48 c) (nat_le c 57) h in (leb-true 48 c p.0, leb-true c 57 p.1)

tells : IsDigitsTest AreDigits
unfolding AreDigits
tells = record {
  empty = refl;
  parts = λ c cs e. let k = and_parts (is_digit c) (all_digits cs) e in (digit_range c k.0, k.1);
  more = λ c cs k e i. (le-leb 48 c k.0 i && le-leb c 57 k.1 i) && e i;
}

folds : FoldsDigits number_from
folds = record { empty = λ n. refl; more = λ n c cs k. refl }

pub numerals : IsNumeralModel AreDigits number_of
numerals = numerals_by_fold AreDigits tells number_from folds

-- what digits behind a number were
pub record Digits (k : ℕ) (bs : List ℕ) (n : ℕ) : Type 0 where
  pub digits : all_digits bs ≡ true
  pub value : number_from k bs ≡ n
  pub small : k ≤ most → n ≤ most

pub digits_sound : (k : ℕ) (bs : List ℕ) (n : ℕ) → natural_from k bs ≡ Some n → Digits k bs n
unfolding natural_from
digits_sound k [] n e = let same : k ≡ n = cc in record { digits = refl; value = same; small = λ h. subst (λ x. x ≤ most) same h }
digits_sound k (b ∷ bs) n e =
    let G : Type 0 = Digits k (b ∷ bs) n in
    if_some (is_digit b) _ _ n G e
    (λ d e. if_some (nat_lt most (k * 10 + (b - 48))) _ _ n G e
    (λ _ e. absurd (cc))
    (λ s e. let next = digits_sound (k * 10 + (b - 48)) bs n e in
    record { digits = and_from (is_digit b) (all_digits bs) d next.digits; value = next.value; small = λ _. next.small (ltb-false most (k * 10 + (b - 48)) s) }))
    (λ _ e. absurd (cc))

number_grows : (k : ℕ) (bs : List ℕ) → k ≤ number_from k bs
number_grows k [] = omega arith
number_grows k (b ∷ bs) = let h = number_grows (k * 10 + (b - 48)) bs in omega arith

pub digits_complete : (k : ℕ) (bs : List ℕ) → all_digits bs ≡ true → number_from k bs ≤ most → natural_from k bs ≡ Some (number_from k bs)
unfolding natural_from
digits_complete k [] h s = refl
digits_complete k (b ∷ bs) h s =
    let d = and_parts (is_digit b) (all_digits bs) h in
    let g = number_grows (k * 10 + (b - 48)) bs in
    cond_true _ _ _ d.0 ∙ cond_false _ _ _ (le-ltb most (k * 10 + (b - 48)) (omega arith)) ∙ digits_complete (k * 10 + (b - 48)) bs d.1 s

-- an integer of 64 bits
pub fitting_some : (z y : ℤ) → fitting z ≡ Some y → (z ≡ y) × (fits_i64 z ≡ true)
fitting_some z y e = if_some (fits_i64 z) _ _ y ((z ≡ y) × (fits_i64 z ≡ true)) e (λ h e. (cc, h)) (λ _ e. absurd (cc))

pub fitting_is : (z : ℤ) → fits_i64 z ≡ true → fitting z ≡ Some z
fitting_is z h = cond_true _ _ _ h

pub positive_some : (ds : List ℕ) (z : ℤ) → positive ds ≡ Some z → (z ≡ pos (number_of ds)) × (fits_i64 (pos (number_of ds)) ≡ true)
unfolding positive
positive_some ds z e =
    option_and_then_some {P = (z ≡ pos (number_of ds)) × (fits_i64 (pos (number_of ds)) ≡ true)} _ (natural_from 0 ds) z e
    (λ n got e. let d = (digits_sound 0 ds n got).value in
    let f = fitting_some (pos n) z e in
    (sym f.0 ∙ ap pos (sym d), subst (λ m. fits_i64 (pos m) ≡ true) (sym d) f.1))

pub negative_some : (ds : List ℕ) (z : ℤ) → negative ds ≡ Some z → (are_digits ds ≡ true) × (z ≡ minus (number_of ds)) × (fits_i64 (minus (number_of ds)) ≡ true)
unfolding negative
negative_some ds z e =
    let G : Type 0 = (are_digits ds ≡ true) × (z ≡ minus (number_of ds)) × (fits_i64 (minus (number_of ds)) ≡ true) in
    if_some (are_digits ds) _ _ z G e
    (λ h e. option_and_then_some {P = G} _ (natural_from 0 ds) z e
    (λ n got e. let d = (digits_sound 0 ds n got).value in
    let f = fitting_some (minus n) z e in
    (h, sym f.0 ∙ ap minus (sym d), subst (λ m. fits_i64 (minus m) ≡ true) (sym d) f.1)))
    (λ _ e. absurd (cc))

pub all_of_some : (ds : List ℕ) → are_digits ds ≡ true → all_digits ds ≡ true
all_of_some [] h = refl
all_of_some (b ∷ bs) h = h

pos_small : (n : ℕ) → fits_i64 (pos n) ≡ true → n ≤ most
pos_small n h = let k = ltb-true n (2 ^ 63) h in omega arith

minus_small : (n : ℕ) → fits_i64 (minus n) ≡ true → n ≤ most
minus_small zero h = omega arith
minus_small (suc n) h = let k = ltb-true n (2 ^ 63) h in omega arith

pub positive_is : (ds : List ℕ) → are_digits ds ≡ true → fits_i64 (pos (number_of ds)) ≡ true → positive ds ≡ Some (pos (number_of ds))
unfolding positive
positive_is ds d h =
    (λ i. option_and_then (λ n. fitting (pos n)) (digits_complete 0 ds (all_of_some ds d) (pos_small (number_of ds) h) i)) ∙ fitting_is _ h

pub negative_is : (ds : List ℕ) → are_digits ds ≡ true → fits_i64 (minus (number_of ds)) ≡ true → negative ds ≡ Some (minus (number_of ds))
unfolding negative
negative_is ds d h =
    cond_true _ _ _ d
    ∙ (λ i. option_and_then (λ n. fitting (minus n)) (digits_complete 0 ds (all_of_some ds d) (minus_small (number_of ds) h) i)) ∙ fitting_is _ h

-- the digits of a number are digits, and spell it
pub decimal_digits : (n : ℕ) → n < 2 ^ 64 → (are_digits (decimal n) ≡ true) × (number_of (decimal n) ≡ n)
unfolding AreDigits
decimal_digits n h = (go (decimal n) (decimal_nonempty n h) (digits_decimal numerals n h), digits_value-decimal numerals n h)
  where
    go : (ds : List ℕ) → 0 < length ds → all_digits ds ≡ true → are_digits ds ≡ true
    go [] l d = absurd (omega arith)
    go (b ∷ bs) l d = d
