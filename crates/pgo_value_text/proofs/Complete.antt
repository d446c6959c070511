-- What is a value text is read.
use Rattle.std.proofs.Common.{◌≡◌, ℕ, zero, suc, pos, true, false, ◌&&◌, cond, nat_eq, List, [], ◌∷◌, ◌++◌, length, Option, Some, None, refl, sym, ◌∙◌, ap, subst, arith}
use Rattle.std.specs.Prelude.{codes}
use Rattle.std.proofs.lemmas.Bool.{eq-eqb, eqb-true, and_parts, and_left}
use Rattle.std.proofs.lemmas.List.{append-nil}
use Rattle.pgo_base.specs.Data.{Data, boolean, integer, string, model, set, function, items, pairs, keys}
use Rattle.pgo_base.specs.Pairs.{pairs_in_order}
use Rattle.pgo_base.specs.Sets.{in_order}
use Rattle.pgo_model.specs.Operators.{fits_i64, sequence_at}
use Rattle.pgo_model.specs.ValueText.{is_digit, is_word_byte, all_word_bytes, same_bytes, all_escaped}
use Rattle.pgo_model.specs.BundleParts.{all_string_bytes}
use Rattle.pgo_value_text.specs.declared.read.PairForm.TheVariants.{Fields, Mappings}
use Rattle.pgo_value_text.specs.IsValueText.{most_depth, is_name, all_digits, are_digits, number_of, minus, Spaced, Joined, Parted, Listed, Field, field, StandOnce, Form, truth, number, negative, string_in_quotes, name, set_text, tuple_text, record_text, function_text, Spells, is_small, IsValueText}
use Rattle.pgo_value_text.specs.Parsers.{Outcome, Parser, give}
use Rattle.pgo_value_text.specs.Reading.{begins, front, behind, as_integer, word_value, word_atom, negative_atom, string_from, string_atom, atom, spaced, listed, pair_in, pairs_in, set_of, tuple_of, record_of, function_of, form, value, if_whole, whole}
use Rattle.pgo_value_text.specs.Reading as reading
use Rattle.pgo_value_text.proofs.Steps.{if_some, cond_true, cond_false, then_at}
use Rattle.pgo_value_text.proofs.Runs.{run_front, run_behind, words_run, apart_stops}
use Rattle.pgo_value_text.proofs.Numbers.{all_of_some, positive_is, negative_is}
use Rattle.pgo_value_text.proofs.Strings.{string_finds, string_parts}
use Rattle.pgo_value_text.proofs.WordBytes.{no_byte, no_blank, digit_word, digits_words, not_same, name_words, name_no_truth, name_no_digits}
use Rattle.pgo_value_text.proofs.Distinct.{fields_distinct}
use Rattle.pgo_value_text.proofs.Sound.{sound}
use Rattle.pgo_value_text.proofs.Finds.{IsApart, IsMark, Opening, Opens, Finds, three_on, finds_spaced, finds_joined, finds_parted, finds_listed}

-- ---- what a value begins with

-- a word has a first byte
record First (x : List ℕ) : Type 0 where
  byte : ℕ
  rest : List ℕ
  is : x ≡ byte ∷ rest
  in_word : is_word_byte byte ≡ true

first_opening : (x : List ℕ) → First x → Opening x
first_opening x f = record {
  byte = f.byte;
  rest = f.rest;
  is = f.is;
  blank = no_blank f.byte f.in_word;
  brace = no_byte f.byte 125 f.in_word refl;
  angle = no_byte f.byte 62 f.in_word refl;
}

digits_first : (ds : List ℕ) → are_digits ds ≡ true → First ds
digits_first [] h = absurd (cc)
digits_first (b ∷ bs) h = record { byte = b; rest = bs; is = refl; in_word = digit_word b (and_parts (is_digit b) (all_digits bs) h).0 }

name_first : (x : List ℕ) → is_name x ≡ true → First x
name_first [] h = absurd (cc)
name_first (b ∷ bs) h = record { byte = b; rest = bs; is = refl; in_word = (and_parts (is_word_byte b) (all_word_bytes bs) (name_words (b ∷ bs) h)).0 }

form_opens : (P : List ℕ → Data → Type 0) {text : List ℕ} {v : Data} → Form P text v → Opening text
form_opens P (truth true) = record { byte = 84; rest = codes "RUE"; is = refl; blank = refl; brace = refl; angle = refl }
form_opens P (truth false) = record { byte = 70; rest = codes "ALSE"; is = refl; blank = refl; brace = refl; angle = refl }
form_opens P (number ds d h) = first_opening ds (digits_first ds d)
form_opens P (negative ds d h) = record { byte = 45; rest = ds; is = refl; blank = refl; brace = refl; angle = refl }
form_opens P (string_in_quotes s h) = record { byte = 34; rest = all_escaped s ++ codes "\""; is = refl; blank = refl; brace = refl; angle = refl }
form_opens P (name x h) = first_opening x (name_first x h)
form_opens P (set_text bs l) = record { byte = 123; rest = bs ++ codes "}"; is = refl; blank = refl; brace = refl; angle = refl }
form_opens P (tuple_text bs l) = record { byte = 60; rest = 60 ∷ (bs ++ codes ">>"); is = refl; blank = refl; brace = refl; angle = refl }
form_opens P (record_text bs l d) = record { byte = 91; rest = bs ++ codes "]"; is = refl; blank = refl; brace = refl; angle = refl }
form_opens P (function_text bs l) = record { byte = 40; rest = bs ++ codes ")"; is = refl; blank = refl; brace = refl; angle = refl }

opens : (n : ℕ) → Opens (Spells n)
unfolding Spells
opens zero text v h = absurd h
opens (suc n) text v h = form_opens (Spells n) h

-- ---- words

-- a word, whatever is made of it
word_give : {A : Type 0} (make : List ℕ → Option A) (x : List ℕ) (a : A) (r : List ℕ) → all_word_bytes x ≡ true → IsApart r → make x ≡ Some a
    → give (make (front is_word_byte (x ++ r))) (behind is_word_byte (x ++ r)) ≡ Some (a, r)
word_give make x a r w h e =
    let run = words_run x w in
    let stop = apart_stops r h in
    (λ i. give (make (run_front is_word_byte x r run stop i)) (run_behind is_word_byte x r run stop i)) ∙ ap (λ o. give o r) e

word_found : (x : List ℕ) (v : Data) (r : List ℕ) → all_word_bytes x ≡ true → IsApart r → word_value x ≡ Some v → word_atom (x ++ r) ≡ Some (v, r)
unfolding word_atom
word_found x v r w h e = word_give word_value x v r w h e

true_value : word_value (codes "TRUE") ≡ Some (boolean true)
unfolding word_value
true_value = refl

false_value : word_value (codes "FALSE") ≡ Some (boolean false)
unfolding word_value
false_value = refl

no_truth : (x : List ℕ) (k : ℕ) (ws : List ℕ) → are_digits x ≡ true → is_digit k ≡ false → same_bytes x (k ∷ ws) ≡ false
no_truth [] k ws h g = refl
no_truth (b ∷ bs) k ws h g =
    let d = (and_parts (is_digit b) (all_digits bs) h).0 in
    not_same b k bs ws (λ e. let s : is_digit b ≡ is_digit k = ap is_digit e in absurd (cc))

number_value : (ds : List ℕ) → are_digits ds ≡ true → fits_i64 (pos (number_of ds)) ≡ true → word_value ds ≡ Some (integer (pos (number_of ds)))
unfolding word_value
number_value ds d h =
    cond_false _ _ _ (no_truth ds 84 (codes "RUE") d refl) ∙ cond_false _ _ _ (no_truth ds 70 (codes "ALSE") d refl) ∙ cond_true _ _ _ d ∙ ap as_integer (positive_is ds d h)

name_value : (x : List ℕ) → is_name x ≡ true → word_value x ≡ Some (model x)
unfolding word_value
name_value x h =
    let t = name_no_truth x h in
    cond_false _ _ _ t.0 ∙ cond_false _ _ _ t.1 ∙ cond_false _ _ _ (name_no_digits x h) ∙ cond_true _ _ _ h

field_found : {text : List ℕ} {k : Data} (r : List ℕ) → Field text k → IsApart r → reading.field (text ++ r) ≡ Some (k, r)
unfolding reading.field
field_found r (field {x} h) a = word_give (λ w. cond (is_name w) (Some (string w)) None) x (string x) r (name_words x h) a (cond_true _ _ _ h)

finds_field : Finds reading.field Field IsApart
finds_field text k r h a = field_found r h a

field_opens : {text : List ℕ} {k : Data} → Field text k → Opening text
field_opens (field {x} h) = first_opening x (name_first x h)

opens_field : Opens Field
opens_field text k h = field_opens h

-- ---- values

brace_closed : (bs : List ℕ) → Opening bs → begins (codes "}") bs ≡ false
brace_closed bs o = ap (begins (codes "}")) o.is ∙ and_left (nat_eq 125 o.byte) true o.brace

angle_closed : (bs : List ℕ) → Opening bs → begins (codes ">>") bs ≡ false
angle_closed bs o = ap (begins (codes ">>")) o.is ∙ and_left (nat_eq 62 o.byte) (begins (codes ">") o.rest) o.angle

module _ (p : Parser Data) (P : List ℕ → Data → Type 0) (f : Finds p P IsApart) (o : Opens P) where
  word_first : (b : ℕ) (bs : List ℕ) → is_word_byte b ≡ true → form p (b ∷ bs) ≡ word_atom (b ∷ bs)
  unfolding form atom
  word_first b bs w =
      cond_false _ _ _ (and_left (nat_eq 123 b) true (no_byte b 123 w refl))
      ∙ cond_false _ _ _ (and_left (nat_eq 60 b) (begins (codes "<") bs) (no_byte b 60 w refl))
      ∙ cond_false _ _ _ (and_left (nat_eq 91 b) true (no_byte b 91 w refl))
      ∙ cond_false _ _ _ (and_left (nat_eq 40 b) true (no_byte b 40 w refl))
      ∙ cond_false _ _ _ (and_left (nat_eq 34 b) true (no_byte b 34 w refl))
      ∙ cond_false _ _ _ (and_left (nat_eq 45 b) true (no_byte b 45 w refl))

  word_form : (x : List ℕ) (v : Data) (r : List ℕ) → First x → all_word_bytes x ≡ true → IsApart r → word_value x ≡ Some v → form p (x ++ r) ≡ Some (v, r)
  word_form x v r q w h e =
      ap (λ l. form p (l ++ r)) q.is ∙ word_first q.byte (q.rest ++ r) q.in_word ∙ ap (λ l. word_atom (l ++ r)) (sym q.is) ∙ word_found x v r w h e

  negative_form : (ds r : List ℕ) → are_digits ds ≡ true → fits_i64 (minus (number_of ds)) ≡ true → IsApart r → form p (45 ∷ (ds ++ r)) ≡ Some (integer (minus (number_of ds)), r)
  unfolding form atom negative_atom
  negative_form ds r d h a =
      word_give (λ w. as_integer (reading.negative w)) ds (integer (minus (number_of ds))) r (digits_words ds (all_of_some ds d)) a (ap as_integer (negative_is ds d h))

  string_form : (s r : List ℕ) → all_string_bytes s ≡ true → form p (34 ∷ (all_escaped s ++ 34 ∷ r)) ≡ Some (string s, r)
  unfolding form atom string_atom
  string_form s r h = then_at (string_from false [] (all_escaped s ++ 34 ∷ r)) _ (Some (string s, r)) s r (string_finds s r h) refl

  set_form : (bs : List ℕ) (xs : List Data) (r : List ℕ) → Listed P bs xs → form p (123 ∷ (bs ++ 125 ∷ r)) ≡ Some (set (items (in_order xs)), r)
  unfolding form set_of
  set_form bs xs r l =
      then_at (listed (codes "}") p (bs ++ 125 ∷ r)) _ _ xs (125 ∷ r)
      (finds_listed (codes "}") brace_closed p P f o bs xs (125 ∷ r) l (record { mark = refl; comma = refl; closed = refl })) refl

  tuple_form : (bs : List ℕ) (xs : List Data) (r : List ℕ) → Listed P bs xs → form p (60 ∷ 60 ∷ (bs ++ 62 ∷ 62 ∷ r)) ≡ Some (function (pairs (sequence_at 1 xs)), r)
  unfolding form tuple_of
  tuple_form bs xs r l =
      then_at (listed (codes ">>") p (bs ++ 62 ∷ 62 ∷ r)) _ _ xs (62 ∷ 62 ∷ r)
      (finds_listed (codes ">>") angle_closed p P f o bs xs (62 ∷ 62 ∷ r) l (record { mark = refl; comma = refl; closed = refl })) refl

  finds_one_field : Finds (pair_in Fields p) (Joined (codes "|->") (Spaced Field) (Spaced P)) IsMark
  unfolding pair_in
  finds_one_field =
      finds_joined (codes "|->") (λ r. refl) (spaced reading.field) (Spaced Field) (finds_spaced reading.field Field finds_field opens_field) (spaced p) (Spaced P) (finds_spaced p P f o)

  finds_one_mapping : Finds (pair_in Mappings p) (Joined (codes ":>") (Spaced P) (Spaced P)) IsMark
  unfolding pair_in
  finds_one_mapping = finds_joined (codes ":>") (λ r. refl) (spaced p) (Spaced P) (finds_spaced p P f o) (spaced p) (Spaced P) (finds_spaced p P f o)

  record_form : (bs : List ℕ) (ps : List (Data × Data)) (r : List ℕ) → Parted (codes ",") (Joined (codes "|->") (Spaced Field) (Spaced P)) bs ps → StandOnce (keys ps)
      → form p (91 ∷ (bs ++ 93 ∷ r)) ≡ Some (function (pairs (pairs_in_order ps)), r)
  unfolding form record_of
  record_form bs ps r l d =
      then_at (pairs_in Fields p (bs ++ 93 ∷ r)) _ _ ps (93 ∷ r)
      (finds_parted (codes ",") (λ r. refl) (omega arith) (pair_in Fields p) _ finds_one_field bs ps (93 ∷ r) l (refl, refl))
      (ap (λ q. give (cond q (Some (function (pairs (pairs_in_order ps)))) None) r) (eq-eqb _ _ (fields_distinct ps d)))

  function_form : (bs : List ℕ) (ps : List (Data × Data)) (r : List ℕ) → Parted (codes "@@") (Joined (codes ":>") (Spaced P) (Spaced P)) bs ps
      → form p (40 ∷ (bs ++ 41 ∷ r)) ≡ Some (function (pairs (pairs_in_order ps)), r)
  unfolding form function_of
  function_form bs ps r l =
      then_at (pairs_in Mappings p (bs ++ 41 ∷ r)) _ _ ps (41 ∷ r)
      (finds_parted (codes "@@") (λ r. refl) (omega arith) (pair_in Mappings p) _ finds_one_mapping bs ps (41 ∷ r) l (refl, refl)) refl

  form_found : {text : List ℕ} {v : Data} (r : List ℕ) → Form P text v → IsApart r → form p (text ++ r) ≡ Some (v, r)
  form_found r (truth true) a = word_form (codes "TRUE") (boolean true) r (record { byte = 84; rest = codes "RUE"; is = refl; in_word = refl }) refl a true_value
  form_found r (truth false) a = word_form (codes "FALSE") (boolean false) r (record { byte = 70; rest = codes "ALSE"; is = refl; in_word = refl }) refl a false_value
  form_found r (number ds d h) a = word_form ds (integer (pos (number_of ds))) r (digits_first ds d) (digits_words ds (all_of_some ds d)) a (number_value ds d h)
  form_found r (negative ds d h) a = negative_form ds r d h a
  form_found r (string_in_quotes s h) a = ap (form p) (string_parts s r) ∙ string_form s r h
  form_found r (name x h) a = word_form x (model x) r (name_first x h) (name_words x h) a (name_value x h)
  form_found r (set_text bs {xs} l) a = ap (form p) (three_on (codes "{") bs (codes "}") r) ∙ set_form bs xs r l
  form_found r (tuple_text bs {xs} l) a = ap (form p) (three_on (codes "<<") bs (codes ">>") r) ∙ tuple_form bs xs r l
  form_found r (record_text bs {ps} l d) a = ap (form p) (three_on (codes "[") bs (codes "]") r) ∙ record_form bs ps r l d
  form_found r (function_text bs {ps} l) a = ap (form p) (three_on (codes "(") bs (codes ")") r) ∙ function_form bs ps r l

finds : (n : ℕ) → Finds (value n) (Spells n) IsApart
unfolding value Spells
finds zero text v r h a = absurd h
finds (suc n) text v r h a = form_found (value n) (Spells n) (finds n) (opens n) r h a

-- ---- the whole

no_length : (bs : List ℕ) → nat_eq (length bs) 0 ≡ true → bs ≡ []
no_length [] h = refl
no_length (b ∷ bs) h = absurd (let e = eqb-true (length (b ∷ bs)) 0 h in omega arith)

pub whole_some : (bs : List ℕ) (v : Data) → whole bs ≡ Some v → IsValueText bs v
unfolding whole
whole_some bs v h = go (value most_depth bs) refl h
  where
    go : (o : Outcome Data) → value most_depth bs ≡ o → if_whole o ≡ Some v → IsValueText bs v
    go None e h = absurd (cc)
    go (Some p) e h =
        if_some (nat_eq (length p.1) 0 && is_small p.0) _ _ v (IsValueText bs v) h
        (λ t k. let both = and_parts (nat_eq (length p.1) 0) (is_small p.0) t in
        let g = sound most_depth bs p.0 p.1 e in
        let text : g.text ≡ bs = sym (append-nil g.text) ∙ ap (λ l. g.text ++ l) (sym (no_length p.1 both.0)) ∙ sym g.is in
        let same : p.0 ≡ v = cc in
        subst (IsValueText bs) same (record { spelled = subst (λ l. Spells most_depth l p.0) text g.spelled; small = both.1 }))
        (λ _ k. absurd (cc))

pub whole_finds : (bs : List ℕ) (v : Data) → IsValueText bs v → whole bs ≡ Some v
unfolding whole
whole_finds bs v h =
    let at : value most_depth bs ≡ Some (v, []) = ap (value most_depth) (sym (append-nil bs)) ∙ finds most_depth bs v [] h.spelled refl in
    ap if_whole at ∙ cond_true _ _ _ h.small

some_same : {A : Type 0} (o : Option A) (a b : A) → o ≡ Some a → o ≡ Some b → a ≡ b
some_same o a b e f = cc

some_none : {A : Type 0} (o : Option A) (a : A) → o ≡ Some a → o ≡ None → ⊥
some_none o a e f = cc

-- what is read is the only value with this text
pub whole_only : (bs : List ℕ) (d v : Data) → IsValueText bs d → whole bs ≡ Some v → d ≡ v
whole_only bs d v h e = some_same (whole bs) d v (whole_finds bs d h) e

-- where nothing is read, there is none
pub whole_none : (bs : List ℕ) (d : Data) → IsValueText bs d → whole bs ≡ None → ⊥
whole_none bs d h e = some_none (whole bs) d (whole_finds bs d h) e

pub one_value : (bs : List ℕ) (d e : Data) → IsValueText bs d → IsValueText bs e → d ≡ e
one_value bs d e h g = whole_only bs d e h (whole_finds bs e g)
