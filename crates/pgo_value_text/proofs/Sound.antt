-- What is read is a value text.
use Rattle.std.proofs.Common.{◌≡◌, ℕ, zero, suc, ℤ, true, false, nat_eq, List, [], ◌∷◌, ◌++◌, length, Option, Some, None, refl, sym, ◌∙◌, ap, subst}
use Rattle.std.specs.Prelude.{codes}
use Rattle.std.proofs.lemmas.Bool.{eqb-true}
use Rattle.pgo_base.specs.Data.{Data, boolean, integer, string, model, set, function, items, pairs}
use Rattle.pgo_base.specs.Pairs.{pairs_in_order}
use Rattle.pgo_base.specs.Sets.{in_order}
use Rattle.pgo_model.specs.Operators.{sequence_at}
use Rattle.pgo_model.specs.ValueText.{is_word_byte, same_bytes, string_text}
use Rattle.pgo_value_text.specs.declared.read.PairForm.TheVariants.{Fields, Mappings}
use Rattle.pgo_value_text.specs.IsValueText.{is_name, are_digits, Spaced, Joined, Parted, Field, field, Form, truth, number, negative, string_in_quotes, name, set_text, tuple_text, record_text, function_text, Spells}
use Rattle.pgo_value_text.specs.Parsers.{Parser}
use Rattle.pgo_value_text.specs.Reading.{begins, expect, front, behind, positive, as_integer, word_value, word_atom, negative_atom, string_from, string_atom, atom, spaced, listed, pair_in, pairs_in, set_of, tuple_of, record_from, record_of, function_of, form, value}
use Rattle.pgo_value_text.specs.Reading as reading
use Rattle.pgo_value_text.proofs.Steps.{if_some, bind_then, give_some}
use Rattle.pgo_value_text.proofs.Runs.{expected, front_behind}
use Rattle.pgo_value_text.proofs.Numbers.{positive_some, negative_some}
use Rattle.pgo_value_text.proofs.Strings.{string_some, string_parts}
use Rattle.pgo_value_text.proofs.WordBytes.{same_is}
use Rattle.pgo_value_text.proofs.Distinct.{distinct_fields}
use Rattle.pgo_value_text.proofs.Readers.{Given, Sound, given_at, three, two, sound_spaced, sound_joined, sound_parted, sound_listed}

integer_some : (o : Option ℤ) (v : Data) (G : Type 0) → as_integer o ≡ Some v → ((z : ℤ) → o ≡ Some z → integer z ≡ v → G) → G
integer_some None v G h k = absurd (cc)
integer_some (Some z) v G h k = k z refl (cc)

-- ---- values without parts

module _ (P : List ℕ → Data → Type 0) where
  word_is : (w : List ℕ) (v : Data) → word_value w ≡ Some v → Form P w v
  unfolding word_value
  word_is w v h =
      let G : Type 0 = Form P w v in
      if_some (same_bytes w (codes "TRUE")) _ _ v G h
      (λ s e. let same : boolean true ≡ v = cc in subst (λ v. Form P w v) same (subst (λ w. Form P w (boolean true)) (sym (same_is w (codes "TRUE") s)) (truth true)))
      (λ _ e. if_some (same_bytes w (codes "FALSE")) _ _ v G e
      (λ s e. let same : boolean false ≡ v = cc in subst (λ v. Form P w v) same (subst (λ w. Form P w (boolean false)) (sym (same_is w (codes "FALSE") s)) (truth false)))
      (λ _ e. if_some (are_digits w) _ _ v G e
      (λ d e. integer_some (positive w) v G e (λ z p i. let q = positive_some w z p in subst (λ v. Form P w v) (ap integer (sym q.0) ∙ i) (number w d q.1)))
      (λ _ e. if_some (is_name w) _ _ v G e
      (λ n e. let same : model w ≡ v = cc in subst (λ v. Form P w v) same (name w n))
      (λ _ e. absurd (cc)))))

  sound_word : Sound word_atom (Form P)
  unfolding word_atom
  sound_word bs v r h =
      let g = give_some (word_value (front is_word_byte bs)) (behind is_word_byte bs) v r h in
      record { text = front is_word_byte bs; is = front_behind is_word_byte bs r g.1; spelled = word_is (front is_word_byte bs) v g.0 }

  sound_negative : Sound negative_atom (Form P)
  unfolding negative_atom
  sound_negative bs v r h =
      let G : Type 0 = Given (Form P) bs v r in
      bind_then (expect (codes "-") bs) _ (v, r) G h
      (λ u i got e. let w : List ℕ = front is_word_byte i in
      let g = give_some (as_integer (reading.negative w)) (behind is_word_byte i) v r e in
      integer_some (reading.negative w) v G g.0
      (λ z n same. let q = negative_some w z n in
      record {
        text = codes "-" ++ w;
        is = two (codes "-") w r bs i (expected (codes "-") bs u i got) (front_behind is_word_byte i r g.1);
        spelled = subst (λ v. Form P (codes "-" ++ w) v) (ap integer (sym q.1) ∙ same) (negative w q.0 q.2);
      }))

  sound_string : Sound string_atom (Form P)
  unfolding string_atom
  sound_string bs v r h =
      let G : Type 0 = Given (Form P) bs v r in
      bind_then (expect (codes "\"") bs) _ (v, r) G h
      (λ u i got e. bind_then (string_from false [] i) _ (v, r) G e
      (λ s j had e. let k = string_some i s j had in
      given_at (Form P) bs (string s) v j r e
      (record { text = string_text s; is = expected (codes "\"") bs u i got ∙ ap (λ l. 34 ∷ l) k.0 ∙ sym (string_parts s j); spelled = string_in_quotes s k.1 })))

  sound_atom : Sound atom (Form P)
  unfolding atom
  sound_atom bs v r h =
      let G : Type 0 = Given (Form P) bs v r in
      if_some (begins (codes "\"") bs) _ _ (v, r) G h
      (λ _ e. sound_string bs v r e)
      (λ _ e. if_some (begins (codes "-") bs) _ _ (v, r) G e (λ _ e. sound_negative bs v r e) (λ _ e. sound_word bs v r e))

sound_field : Sound reading.field Field
unfolding reading.field
sound_field bs v r h =
    let w : List ℕ = front is_word_byte bs in
    let g = give_some _ (behind is_word_byte bs) v r h in
    let there : Field w v = if_some (is_name w) _ _ v (Field w v) g.0 (λ n e. let same : string w ≡ v = cc in subst (λ v. Field w v) same (field n)) (λ _ e. absurd (cc)) in
    record { text = w; is = front_behind is_word_byte bs r g.1; spelled = there }

-- ---- values with parts

module _ (p : Parser Data) (P : List ℕ → Data → Type 0) (s : Sound p P) where
  field_pair : Sound (pair_in Fields p) (Joined (codes "|->") (Spaced Field) (Spaced P))
  unfolding pair_in
  field_pair = sound_joined (codes "|->") (spaced reading.field) (Spaced Field) (sound_spaced reading.field Field sound_field) (spaced p) (Spaced P) (sound_spaced p P s)

  mapping_pair : Sound (pair_in Mappings p) (Joined (codes ":>") (Spaced P) (Spaced P))
  unfolding pair_in
  mapping_pair = sound_joined (codes ":>") (spaced p) (Spaced P) (sound_spaced p P s) (spaced p) (Spaced P) (sound_spaced p P s)

  sound_fields : Sound (pairs_in Fields p) (Parted (codes ",") (Joined (codes "|->") (Spaced Field) (Spaced P)))
  sound_fields = sound_parted (pair_in Fields p) (Joined (codes "|->") (Spaced Field) (Spaced P)) field_pair (codes ",")

  sound_mappings : Sound (pairs_in Mappings p) (Parted (codes "@@") (Joined (codes ":>") (Spaced P) (Spaced P)))
  sound_mappings = sound_parted (pair_in Mappings p) (Joined (codes ":>") (Spaced P) (Spaced P)) mapping_pair (codes "@@")

  sound_set : Sound (set_of p) (Form P)
  unfolding set_of
  sound_set bs v r h =
      let G : Type 0 = Given (Form P) bs v r in
      bind_then (expect (codes "{") bs) _ (v, r) G h
      (λ u i got e. bind_then (listed (codes "}") p i) _ (v, r) G e
      (λ xs j had e. bind_then (expect (codes "}") j) _ (v, r) G e
      (λ w k end e. let g = sound_listed (codes "}") p P s i xs j had in
      given_at (Form P) bs (set (items (in_order xs))) v k r e
      (record {
        text = codes "{" ++ (g.text ++ codes "}");
        is = three (codes "{") g.text (codes "}") k bs i j (expected (codes "{") bs u i got) g.is (expected (codes "}") j w k end);
        spelled = set_text g.text g.spelled;
      }))))

  sound_tuple : Sound (tuple_of p) (Form P)
  unfolding tuple_of
  sound_tuple bs v r h =
      let G : Type 0 = Given (Form P) bs v r in
      bind_then (expect (codes "<<") bs) _ (v, r) G h
      (λ u i got e. bind_then (listed (codes ">>") p i) _ (v, r) G e
      (λ xs j had e. bind_then (expect (codes ">>") j) _ (v, r) G e
      (λ w k end e. let g = sound_listed (codes ">>") p P s i xs j had in
      given_at (Form P) bs (function (pairs (sequence_at 1 xs))) v k r e
      (record {
        text = codes "<<" ++ (g.text ++ codes ">>");
        is = three (codes "<<") g.text (codes ">>") k bs i j (expected (codes "<<") bs u i got) g.is (expected (codes ">>") j w k end);
        spelled = tuple_text g.text g.spelled;
      }))))

  sound_record : Sound (record_of p) (Form P)
  unfolding record_of
  sound_record bs v r h =
      let G : Type 0 = Given (Form P) bs v r in
      bind_then (expect (codes "[") bs) _ (v, r) G h
      (λ u i got e. bind_then (pairs_in Fields p i) _ (v, r) G e
      (λ ps j had e. bind_then (expect (codes "]") j) _ (v, r) G e
      (λ w k end e. let g = sound_fields i ps j had in
      let o = give_some (record_from ps) k v r e in
      if_some (nat_eq (length (pairs_in_order ps)) (length ps)) _ _ v G o.0
      (λ d e. let same : function (pairs (pairs_in_order ps)) ≡ v = cc in
      record {
        text = codes "[" ++ (g.text ++ codes "]");
        is = three (codes "[") g.text (codes "]") r bs i j (expected (codes "[") bs u i got) g.is (expected (codes "]") j w k end ∙ ap (λ l. 93 ∷ l) o.1);
        spelled = subst (λ v. Form P (codes "[" ++ (g.text ++ codes "]")) v) same (record_text g.text g.spelled (distinct_fields ps (eqb-true _ _ d)));
      })
      (λ _ e. absurd (cc)))))

  sound_function : Sound (function_of p) (Form P)
  unfolding function_of
  sound_function bs v r h =
      let G : Type 0 = Given (Form P) bs v r in
      bind_then (expect (codes "(") bs) _ (v, r) G h
      (λ u i got e. bind_then (pairs_in Mappings p i) _ (v, r) G e
      (λ ps j had e. bind_then (expect (codes ")") j) _ (v, r) G e
      (λ w k end e. let g = sound_mappings i ps j had in
      given_at (Form P) bs (function (pairs (pairs_in_order ps))) v k r e
      (record {
        text = codes "(" ++ (g.text ++ codes ")");
        is = three (codes "(") g.text (codes ")") k bs i j (expected (codes "(") bs u i got) g.is (expected (codes ")") j w k end);
        spelled = function_text g.text g.spelled;
      }))))

  sound_form : Sound (form p) (Form P)
  unfolding form
  sound_form bs v r h =
      let G : Type 0 = Given (Form P) bs v r in
      if_some (begins (codes "{") bs) _ _ (v, r) G h (λ _ e. sound_set bs v r e)
      (λ _ e. if_some (begins (codes "<<") bs) _ _ (v, r) G e (λ _ e. sound_tuple bs v r e)
      (λ _ e. if_some (begins (codes "[") bs) _ _ (v, r) G e (λ _ e. sound_record bs v r e)
      (λ _ e. if_some (begins (codes "(") bs) _ _ (v, r) G e (λ _ e. sound_function bs v r e) (λ _ e. sound_atom P bs v r e))))

-- what is read as a value of at most this depth is a text of one
pub sound : (n : ℕ) → Sound (value n) (Spells n)
unfolding value Spells
sound zero bs v r h = absurd (cc)
sound (suc n) bs v r h = sound_form (value n) (Spells n) (sound n) bs v r h
