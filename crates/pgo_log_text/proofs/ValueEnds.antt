-- Where the text of a value ends: no newline stands in it, and no `]` outside of strings that closes none of its brackets.
use Rattle.std.proofs.Common.{◌≡◌, ◌+◌, ◌-◌, ℕ, zero, suc, Bool, true, false, not, ◌&&◌, ◌||◌, cond, nat_eq, List, [], ◌∷◌, ◌++◌, length, take, drop, refl, sym, ◌∙◌, ap, arith, append_assoc, length-append, zero-add}
use Rattle.std.specs.Prelude.{codes}
use Rattle.std.proofs.Math.Bool.{and-true}
use Rattle.std.proofs.Math.Seq.{drop-append_seam, take-append_seam}
use Rattle.std.proofs.lemmas.Bool.{not-true, ne_eqb, and_parts}
use Rattle.pgo_base.specs.Data.{Data}
use Rattle.pgo_model.specs.ValueText.{is_word_byte, all_word_bytes, escaped, all_escaped, string_text}
use Rattle.pgo_value_text.specs.IsValueText.{most_depth, is_blank, all_blank, Spaced, spaced, Joined, joined, Followed, none, next, Parted, parted, Listed, nothing, listed, Field, field, Form, truth, number, negative, string_in_quotes, name, set_text, tuple_text, record_text, function_text, Spells, IsValueText}
use Rattle.pgo_value_text.proofs.Numbers.{all_of_some}
use Rattle.pgo_value_text.proofs.WordBytes.{digits_words, name_words}
use Rattle.pgo_value_text.proofs.Steps.{cond_true}
use Rattle.pgo_log_text.specs.declared.value.Place.{Place}
use Rattle.pgo_log_text.specs.declared.value.Place.TheVariants.{Outside, Quoted, Escaped}
use Rattle.pgo_log_text.specs.Bytes.{is_behind_value, is_end, place_behind, brackets_behind, value_length, value_front, value_behind}

-- these bytes are passed over, from one place to another, with so many open brackets before and behind them
record Over (p : Place) (n : ℕ) (bs : List ℕ) (q : Place) (m : ℕ) : Type 0 where
  on : (r : List ℕ) → value_length p n (bs ++ r) ≡ length bs + value_length q m r

-- they stand outside of strings, and their brackets are their own
abbrev Passes : List ℕ → Type 0
Passes bs = (n : ℕ) → Over Outside n bs Outside n

empty : (p : Place) (n : ℕ) → Over p n [] p n
empty p n = record { on = λ r. sym (zero-add (value_length p n r)) }

sums : (a b c l : ℕ) → l ≡ a + b → a + (b + c) ≡ l + c
sums a b c l e = omega arith

both : {p q s : Place} {n m k : ℕ} (a b : List ℕ) → Over p n a q m → Over q m b s k → Over p n (a ++ b) s k
both {p} {q} {s} {n} {m} {k} a b x y =
    record { on = λ r. ap (value_length p n) (append_assoc a b r) ∙ x.on (b ++ r) ∙ ap (λ z. length a + z) (y.on r) ∙ sums (length a) (length b) (value_length s k r) (length (a ++ b)) (length-append a b) }

one : {p q : Place} {n m : ℕ} (b : ℕ) → is_end p n b ≡ false → place_behind p b ≡ q → brackets_behind p n b ≡ m → Over p n (b ∷ []) q m
unfolding value_length
one b h e f = record { on = λ r i. cond (h i) 0 (1 + value_length (e i) (f i) r) }

-- ---- bytes that are no quote, no bracket and no newline

abbrev is_plain : ℕ → Bool
is_plain b = not (nat_eq b 10) && not (nat_eq b 34) && not (nat_eq b 91) && not (nat_eq b 93)

abbrev all_plain : List ℕ → Bool
all_plain [] = true
all_plain (b ∷ bs) = is_plain b && all_plain bs

plain_byte : (n b : ℕ) → is_plain b ≡ true → Over Outside n (b ∷ []) Outside n
plain_byte n b h =
    let p = and_parts (not (nat_eq b 10) && not (nat_eq b 34) && not (nat_eq b 91)) (not (nat_eq b 93)) h in
    let q = and_parts (not (nat_eq b 10) && not (nat_eq b 34)) (not (nat_eq b 91)) p.0 in
    let r = and_parts (not (nat_eq b 10)) (not (nat_eq b 34)) q.0 in
    let newline = not-true (nat_eq b 10) r.0 in
    let quote = not-true (nat_eq b 34) r.1 in
    let opens = not-true (nat_eq b 91) q.1 in
    let closes = not-true (nat_eq b 93) p.1 in
    one b (λ i. newline i || (closes i && nat_eq n 0)) (λ i. cond (quote i) Quoted Outside) (λ i. cond (opens i) (n + 1) (cond (closes i) (n - 1) n))

plains : (bs : List ℕ) → all_plain bs ≡ true → Passes bs
plains [] h n = empty Outside n
plains (b ∷ bs) h n = let p = and_parts (is_plain b) (all_plain bs) h in both (b ∷ []) bs (plain_byte n b p.0) (plains bs p.1 n)

-- a byte that passes a test is none that doesn't
other : (p : ℕ → Bool) (b k : ℕ) → p b ≡ true → p k ≡ false → nat_eq b k ≡ false
other p b k h g = ne_eqb b k (λ e. let s = ap p e in absurd (cc))

plain_by : (p : ℕ → Bool) (b : ℕ) → p b ≡ true → p 10 ≡ false → p 34 ≡ false → p 91 ≡ false → p 93 ≡ false → is_plain b ≡ true
plain_by p b h t q o c = λ i. not (other p b 10 h t i) && not (other p b 34 h q i) && not (other p b 91 h o i) && not (other p b 93 h c i)

plain_words : (bs : List ℕ) → all_word_bytes bs ≡ true → all_plain bs ≡ true
plain_words [] h = refl
plain_words (b ∷ bs) h =
    let p = and_parts (is_word_byte b) (all_word_bytes bs) h in
    λ i. plain_by is_word_byte b p.0 refl refl refl refl i && plain_words bs p.1 i

plain_blanks : (bs : List ℕ) → all_blank bs ≡ true → all_plain bs ≡ true
plain_blanks [] h = refl
plain_blanks (b ∷ bs) h =
    let p = and_parts (is_blank b) (all_blank bs) h in
    λ i. plain_by is_blank b p.0 refl refl refl refl i && plain_blanks bs p.1 i

blanks_pass : (bs : List ℕ) → all_blank bs ≡ true → Passes bs
blanks_pass bs h = plains bs (plain_blanks bs h)

name_passes : (x : List ℕ) → all_word_bytes x ≡ true → Passes x
name_passes x h = plains x (plain_words x h)

-- ---- strings

choose : (b : Bool) (x y : List ℕ) (P : List ℕ → Type 0) → (b ≡ true → P x) → (b ≡ false → P y) → P (cond b x y)
choose true x y P f g = f refl
choose false x y P f g = g refl

-- a `\` and the byte behind it
pair_passes : (n b : ℕ) → nat_eq b 10 ≡ false → Over Quoted n (92 ∷ (b ∷ [])) Quoted n
pair_passes n b h = both (92 ∷ []) (b ∷ []) (one 92 refl refl refl) (one b h refl refl)

escaped_passes : (n b : ℕ) → Over Quoted n (escaped b) Quoted n
escaped_passes n b =
    let P : List ℕ → Type 0 = λ t. Over Quoted n t Quoted n in
    choose (nat_eq b 34) _ _ P (λ _. pair_passes n 34 refl)
    (λ quote. choose (nat_eq b 92) _ _ P (λ _. pair_passes n 92 refl)
    (λ slash. choose (nat_eq b 10) _ _ P (λ _. pair_passes n 110 refl)
    (λ newline. choose (nat_eq b 9) _ _ P (λ _. pair_passes n 116 refl)
    (λ _. one b newline (λ i. cond (quote i) Outside (cond (slash i) Escaped Quoted)) refl))))

all_escaped_pass : (n : ℕ) (s : List ℕ) → Over Quoted n (all_escaped s) Quoted n
all_escaped_pass n [] = empty Quoted n
all_escaped_pass n (b ∷ bs) = both (escaped b) (all_escaped bs) (escaped_passes n b) (all_escaped_pass n bs)

string_passes : (s : List ℕ) → Passes (string_text s)
string_passes s n = both (34 ∷ all_escaped s) (34 ∷ []) (both (34 ∷ []) (all_escaped s) (one 34 refl refl refl) (all_escaped_pass n s)) (one 34 refl refl refl)

-- ---- lists of parts

module _ {A : Type 0} (P : List ℕ → A → Type 0) (part : (bs : List ℕ) (a : A) → P bs a → Passes bs) where
  spaced_passes : (bs : List ℕ) (a : A) → Spaced P bs a → Passes bs
  spaced_passes bs a (spaced before part_text behind x p y) n =
      both before (part_text ++ behind) (blanks_pass before x n) (both part_text behind (part part_text a p n) (blanks_pass behind y n))

  followed_passes : (word : List ℕ) → all_plain word ≡ true → {bs : List ℕ} {as' : List A} → Followed word P bs as' → Passes bs
  followed_passes word w none n = empty Outside n
  followed_passes word w (next bs cs {a} p f) n = both word (bs ++ cs) (plains word w n) (both bs cs (part bs a p n) (followed_passes word w f n))

  parted_passes : (word : List ℕ) → all_plain word ≡ true → {bs : List ℕ} {as' : List A} → Parted word P bs as' → Passes bs
  parted_passes word w (parted bs cs {a} p f) n = both bs cs (part bs a p n) (followed_passes word w f n)

module _ {A B : Type 0} (word : List ℕ) (plain : all_plain word ≡ true) (P : List ℕ → A → Type 0) (Q : List ℕ → B → Type 0) (first : (bs : List ℕ) (a : A) → P bs a → Passes bs) (second : (bs : List ℕ) (b : B) → Q bs b → Passes bs) where
  joined_passes : (bs : List ℕ) (p : A × B) → Joined word P Q bs p → Passes bs
  joined_passes bs p (joined cs ds {a} {b} x y) n = both cs (word ++ ds) (first cs a x n) (both word ds (plains word plain n) (second ds b y n))

module _ {A : Type 0} (P : List ℕ → A → Type 0) (part : (bs : List ℕ) (a : A) → P bs a → Passes bs) where
  listed_passes : {bs : List ℕ} {as' : List A} → Listed P bs as' → Passes bs
  listed_passes {bs} (nothing h) n = blanks_pass bs h n
  listed_passes (listed l) n = parted_passes (Spaced P) (spaced_passes P part) (codes ",") refl l n

field_passes : (bs : List ℕ) (d : Data) → Field bs d → Passes bs
field_passes bs d (field h) n = name_passes bs (name_words bs h) n

-- ---- values

closing : (n : ℕ) → Over Outside (n + 1) (93 ∷ []) Outside n
closing n =
    let no : nat_eq (n + 1) 0 ≡ false = ne_eqb (n + 1) 0 (λ e. omega arith) in
    let back : (n + 1) - 1 ≡ n = omega arith in
    one 93 no refl back

bracketed : (bs : List ℕ) → Passes bs → Passes (codes "[" ++ (bs ++ codes "]"))
bracketed bs h n = both (91 ∷ []) (bs ++ 93 ∷ []) (one 91 refl refl refl) (both bs (93 ∷ []) (h (n + 1)) (closing n))

-- bytes between two words
between : (before behind bs : List ℕ) → all_plain before ≡ true → all_plain behind ≡ true → Passes bs → Passes (before ++ (bs ++ behind))
between before behind bs x y h n = both before (bs ++ behind) (plains before x n) (both bs behind (h n) (plains behind y n))

module _ (P : List ℕ → Data → Type 0) (part : (bs : List ℕ) (d : Data) → P bs d → Passes bs) where
  form_passes : (text : List ℕ) (v : Data) → Form P text v → Passes text
  form_passes text v (truth true) = plains (codes "TRUE") refl
  form_passes text v (truth false) = plains (codes "FALSE") refl
  form_passes text v (number ds d h) = name_passes ds (digits_words ds (all_of_some ds d))
  form_passes text v (negative ds d h) = λ n. both (codes "-") ds (plains (codes "-") refl n) (name_passes ds (digits_words ds (all_of_some ds d)) n)
  form_passes text v (string_in_quotes s h) = string_passes s
  form_passes text v (name x h) = name_passes x (name_words x h)
  form_passes text v (set_text bs l) = between (codes "{") (codes "}") bs refl refl (listed_passes P part l)
  form_passes text v (tuple_text bs l) = between (codes "<<") (codes ">>") bs refl refl (listed_passes P part l)
  form_passes text v (record_text bs l d) =
      bracketed bs (parted_passes (Joined (codes "|->") (Spaced Field) (Spaced P)) (joined_passes (codes "|->") refl (Spaced Field) (Spaced P) (spaced_passes Field field_passes) (spaced_passes P part)) (codes ",") refl l)
  form_passes text v (function_text bs l) =
      between (codes "(") (codes ")") bs refl refl
      (parted_passes (Joined (codes ":>") (Spaced P) (Spaced P)) (joined_passes (codes ":>") refl (Spaced P) (Spaced P) (spaced_passes P part) (spaced_passes P part)) (codes "@@") refl l)

spelled_passes : (n : ℕ) (bs : List ℕ) (v : Data) → Spells n bs v → Passes bs
unfolding Spells
spelled_passes zero bs v h = absurd h
spelled_passes (suc n) bs v h = form_passes (Spells n) (spelled_passes n) bs v h

-- ---- the end

ends_there : (r : List ℕ) → is_behind_value r ≡ true → value_length Outside 0 r ≡ 0
unfolding value_length
ends_there [] h = refl
ends_there (b ∷ bs) h = cond_true (nat_eq b 10 || (nat_eq b 93 && true)) 0 _ (ap (λ t. nat_eq b 10 || t) (and-true (nat_eq b 93)) ∙ h)

length_of : (bs r : List ℕ) (v : Data) → IsValueText bs v → is_behind_value r ≡ true → value_length Outside 0 (bs ++ r) ≡ length bs
length_of bs r v h e = let o = spelled_passes most_depth bs v h.spelled 0 in let z = ends_there r e in o.on r ∙ omega arith

-- the text of a value ends before a newline, before a `]`, and at the end
pub text_front : (bs r : List ℕ) (v : Data) → IsValueText bs v → is_behind_value r ≡ true → value_front (bs ++ r) ≡ bs
text_front bs r v h e = (λ i. take (length_of bs r v h e i) (bs ++ r)) ∙ take-append_seam bs r

pub text_behind : (bs r : List ℕ) (v : Data) → IsValueText bs v → is_behind_value r ≡ true → value_behind (bs ++ r) ≡ r
text_behind bs r v h e = (λ i. drop (length_of bs r v h e i) (bs ++ r)) ∙ drop-append_seam bs r
