-- The lines of an account's attempts.
use Rattle.std.proofs.Common.{◌≡◌, ◌<◌, ◌≤◌, ◌^◌, ◌+◌, ℕ, zero, suc, true, false, ◌&&◌, IsTrue, List, [], ◌∷◌, ◌++◌, length, decimal, Option, Some, None, refl, sym, ap, subst, ◌∙◌, append_assoc, arith}
use Rattle.std.specs.Prelude.{codes}
use Rattle.std.proofs.lemmas.Bool.{and_parts}
use Rattle.std.proofs.lemmas.List.{append-nil}
use Rattle.pgo_base.specs.Data.{Data}
use Rattle.pgo_base.specs.Lookup.{Name}
use Rattle.pgo_model.specs.ValueText.{is_word_byte, all_word_bytes}
use Rattle.pgo_model.specs.ModuleText.{line, flatten}
use Rattle.pgo_model.specs.Outcome.{Blocked, NoValue, AssertFails, Many}
use Rattle.pgo_model.specs.Bundle.{fields, indexed_text}
use Rattle.pgo_model.specs.BundleParts.{is_read_name}
use Rattle.pgo_value_text.proofs.Steps.{if_some, cond_false, bind_then, then_at, some_pair}
use Rattle.pgo_value_text.proofs.Runs.{expected, is_apart}
use Rattle.pgo_value_text.proofs.WordBytes.{name_words, no_byte}
use Rattle.pgo_log_text.specs.IsBundle.{IsCanonicalIndex, AttemptLine, StepLine, NoteLine, HeldLine, HeldLogLine, DownLine, FullLine, attempt_fields, attempt_lines, IsAttemptLine, AreAttemptLines}
use Rattle.pgo_log_text.specs.Bytes.{begins}
use Rattle.pgo_log_text.specs.Lines.{NumberWord, StepWord, NoteWord, FullWord, said_by, number_word, number_form, last_component, held_component, held_at, held_form, down_form, attempt_form, attempt_line, attempts}
use Rattle.pgo_log_text.proofs.BytesNumbers.{name_some, name_finds}
use Rattle.pgo_log_text.proofs.LinesFields.{this_field_some, this_field_finds, number_field_some, number_field_finds, last_number_some, last_number_finds}
use Rattle.pgo_log_text.proofs.LinesChanges.{index_text, index_some, index_finds}
use Rattle.pgo_log_text.proofs.LinesTold.{word_some, word_finds}

-- what was read of an attempt
record FormText (said : AttemptLine) (bs r : List ℕ) : Type 0 where
  text_is : bs ≡ fields (attempt_fields said) ++ 10 ∷ r
  valid : IsAttemptLine said

-- ---- numbers

abbrev word_text : NumberWord → List ℕ
word_text StepWord = codes "step "
word_text (NoteWord Blocked) = codes "note blocked "
word_text (NoteWord NoValue) = codes "note novalue "
word_text (NoteWord AssertFails) = codes "note assert "
word_text (NoteWord Many) = codes "many 65536 "
word_text FullWord = codes "full "

number_word_some : (bs : List ℕ) (w : NumberWord) (r : List ℕ) → number_word bs ≡ Some (w, r) → bs ≡ word_text w ++ r
unfolding number_word
number_word_some bs w r e =
    let G : NumberWord → Type 0 = λ w. bs ≡ word_text w ++ r in
    if_some (begins (codes "step ") bs) _ _ (w, r) (G w) e (λ _ e. let f = word_some (codes "step ") StepWord w bs r e in subst G f.1 f.0)
    (λ _ e. if_some (begins (codes "note blocked ") bs) _ _ (w, r) (G w) e (λ _ e. let f = word_some (codes "note blocked ") (NoteWord Blocked) w bs r e in subst G f.1 f.0)
    (λ _ e. if_some (begins (codes "note novalue ") bs) _ _ (w, r) (G w) e (λ _ e. let f = word_some (codes "note novalue ") (NoteWord NoValue) w bs r e in subst G f.1 f.0)
    (λ _ e. if_some (begins (codes "note assert ") bs) _ _ (w, r) (G w) e (λ _ e. let f = word_some (codes "note assert ") (NoteWord AssertFails) w bs r e in subst G f.1 f.0)
    (λ _ e. if_some (begins (codes "many 65536 ") bs) _ _ (w, r) (G w) e (λ _ e. let f = word_some (codes "many 65536 ") (NoteWord Many) w bs r e in subst G f.1 f.0)
    (λ _ e. let f = word_some (codes "full ") FullWord w bs r e in subst G f.1 f.0)))))

word_said : (w : NumberWord) (n : ℕ) (r : List ℕ) → word_text w ++ (decimal n ++ 10 ∷ r) ≡ fields (attempt_fields (said_by w n)) ++ 10 ∷ r
word_said StepWord n r = sym (append_assoc (codes "step ") (decimal n) (10 ∷ r))
word_said (NoteWord Blocked) n r = sym (append_assoc (codes "note blocked ") (decimal n) (10 ∷ r))
word_said (NoteWord NoValue) n r = sym (append_assoc (codes "note novalue ") (decimal n) (10 ∷ r))
word_said (NoteWord AssertFails) n r = sym (append_assoc (codes "note assert ") (decimal n) (10 ∷ r))
word_said (NoteWord Many) n r = sym (append_assoc (codes "many 65536 ") (decimal n) (10 ∷ r))
word_said FullWord n r = sym (append_assoc (codes "full ") (decimal n) (10 ∷ r))

said_valid : (w : NumberWord) (n : ℕ) → n < 2 ^ 32 → IsAttemptLine (said_by w n)
said_valid StepWord n h = h
said_valid (NoteWord kind) n h = h
said_valid FullWord n h = h

number_form_some : (bs : List ℕ) (x : AttemptLine) (r : List ℕ) → number_form bs ≡ Some (x, r) → FormText x bs r
unfolding number_form
number_form_some bs x r e =
    let G : AttemptLine → Type 0 = λ x. FormText x bs r in
    bind_then _ _ _ (G x) e (λ w i a e. bind_then _ _ _ (G x) e (λ n j b e.
    let number = last_number_some i n j b in
    let same = some_pair (said_by w n) x j r e in
    subst G same.0 (record {
      text_is = number_word_some bs w i a ∙ ap (λ z. word_text w ++ z) (number.0 ∙ ap (λ z. decimal n ++ 10 ∷ z) same.1) ∙ word_said w n r;
      valid = said_valid w n number.1;
    })))

-- ---- components

-- what was read as a component
record ComponentText (c : Name × Option Data) (bs r : List ℕ) : Type 0 where
  text_is : bs ≡ c.0 ++ (index_text c.1 ++ 10 ∷ r)
  is_name : IsTrue (is_read_name c.0)
  is_index : IsCanonicalIndex c.1

component_some : (bs : List ℕ) (c : Name × Option Data) (r : List ℕ) → last_component bs ≡ Some (c, r) → ComponentText c bs r
unfolding last_component
component_some bs c r e =
    let G : Name × Option Data → Type 0 = λ c. ComponentText c bs r in
    bind_then _ _ _ (G c) e (λ x i a e. bind_then _ _ _ (G c) e (λ o j b e. bind_then _ _ _ (G c) e (λ u k d e.
    let name = name_some bs x i a in
    let index = index_some i o j b in
    let same = some_pair {A = Name × Option Data} (x, o) c k r e in
    subst G same.0 (record {
      text_is = name.0 ∙ ap (λ z. x ++ z) (index.0 ∙ ap (λ z. index_text o ++ z) (expected (codes "\n") j u k d ∙ ap (λ z. 10 ∷ z) same.1));
      is_name = name.1;
      is_index = index.1;
    }))))

-- behind a name stands a bracket or a newline
apart_index : (o : Option Data) (r : List ℕ) → is_apart (index_text o ++ 10 ∷ r) ≡ true
apart_index None r = refl
apart_index (Some i) r = refl

component_finds : (x : Name) (o : Option Data) (r : List ℕ) → IsTrue (is_read_name x) → IsCanonicalIndex o → last_component (x ++ (index_text o ++ 10 ∷ r)) ≡ Some ((x, o), r)
unfolding last_component
component_finds x o r n i =
    let index_on : List ℕ = index_text o ++ 10 ∷ r in
    then_at _ _ _ x index_on (name_finds x index_on n (apart_index o r))
    (then_at _ _ _ o (10 ∷ r) (index_finds o (10 ∷ r) i refl) refl)

-- ---- what refused an attempt

refused_nest : (w : List ℕ) (n : List ℕ) (x : Name) (o : Option Data) (r : List ℕ) → w ++ (n ++ 32 ∷ (x ++ (index_text o ++ 10 ∷ r))) ≡ (w ++ (n ++ codes " " ++ indexed_text x o)) ++ 10 ∷ r
refused_nest w n x None r = simp append_assoc
refused_nest w n x (Some i) r = simp append_assoc

log_nest : (w n r : List ℕ) → w ++ (n ++ 32 ∷ (codes "$log\n" ++ r)) ≡ (w ++ (n ++ codes " " ++ codes "$log")) ++ 10 ∷ r
log_nest w n r = simp append_assoc

abbrev held_line : ℕ → Option (Name × Option Data) → AttemptLine
held_line h None = HeldLogLine h
held_line h (Some c) = HeldLine h c.0 c.1

abbrev HeldText : Option (Name × Option Data) → List ℕ → List ℕ → Type 0
HeldText None bs r = bs ≡ codes "$log\n" ++ r
HeldText (Some c) bs r = ComponentText c bs r

held_at_some : (h : ℕ) (bs : List ℕ) (x : AttemptLine) (r : List ℕ) → held_at h bs ≡ Some (x, r) → (y : Option (Name × Option Data)) × (x ≡ held_line h y) × HeldText y bs r
unfolding held_at held_component
held_at_some h bs x r e =
    let G : Type 0 = (y : Option (Name × Option Data)) × (x ≡ held_line h y) × HeldText y bs r in
    if_some (begins (codes "$log") bs) _ _ (x, r) G e
    (λ _ e. let w = word_some (codes "$log\n") (HeldLogLine h) x bs r e in (None, sym w.1, w.0))
    (λ _ e. bind_then _ _ _ G e (λ c i a e.
    let read = component_some bs c i a in
    let same = some_pair (HeldLine h c.0 c.1) x i r e in
    (Some c, sym same.0, subst (λ z. ComponentText c bs z) same.1 read)))

held_text : (h : ℕ) (y : Option (Name × Option Data)) (b0 b1 b2 r : List ℕ) → b0 ≡ codes "held " ++ b1 → b1 ≡ decimal h ++ 32 ∷ b2 → h < 2 ^ 32 → HeldText y b2 r → FormText (held_line h y) b0 r
held_text h None b0 b1 b2 r e f few t = record {
  text_is = e ∙ ap (λ z. codes "held " ++ z) (f ∙ ap (λ z. decimal h ++ 32 ∷ z) t) ∙ log_nest (codes "held ") (decimal h) r;
  valid = few;
}
held_text h (Some c) b0 b1 b2 r e f few t = record {
  text_is = e ∙ ap (λ z. codes "held " ++ z) (f ∙ ap (λ z. decimal h ++ 32 ∷ z) t.text_is) ∙ refused_nest (codes "held ") (decimal h) c.0 c.1 r;
  valid = (few, t.is_name, t.is_index);
}

held_some : (bs : List ℕ) (x : AttemptLine) (r : List ℕ) → held_form bs ≡ Some (x, r) → FormText x bs r
unfolding held_form
held_some bs x r e =
    let G : AttemptLine → Type 0 = λ x. FormText x bs r in
    bind_then _ _ _ (G x) e (λ t i a e. bind_then _ _ _ (G x) e (λ h j b e.
    let number = number_field_some i h j b in
    let at = held_at_some h j x r e in
    subst G (sym at.1) (held_text h at.0 bs i j r (expected (codes "held ") bs t i a) number.0 number.1 at.2)))

down_some : (bs : List ℕ) (x : AttemptLine) (r : List ℕ) → down_form bs ≡ Some (x, r) → FormText x bs r
unfolding down_form
down_some bs x r e =
    let G : AttemptLine → Type 0 = λ x. FormText x bs r in
    bind_then _ _ _ (G x) e (λ t i a e. bind_then _ _ _ (G x) e (λ o j b e. bind_then _ _ _ (G x) e (λ c k d e.
    let word = expected (codes "down ") bs t i a in
    let number = number_field_some i o j b in
    let read = component_some j c k d in
    let same = some_pair (DownLine o c.0 c.1) x k r e in
    subst G same.0 (record {
      text_is = word ∙ ap (λ z. codes "down " ++ z) (number.0 ∙ ap (λ z. decimal o ++ 32 ∷ z) (read.text_is ∙ ap (λ z. c.0 ++ (index_text c.1 ++ 10 ∷ z)) same.1)) ∙ refused_nest (codes "down ") (decimal o) c.0 c.1 r;
      valid = (number.1, read.is_name, read.is_index);
    }))))

form_some : (bs : List ℕ) (x : AttemptLine) (r : List ℕ) → attempt_form bs ≡ Some (x, r) → FormText x bs r
unfolding attempt_form
form_some bs x r e =
    let G : Type 0 = FormText x bs r in
    if_some (begins (codes "held ") bs) _ _ (x, r) G e (λ _ e. held_some bs x r e)
    (λ _ e. if_some (begins (codes "down ") bs) _ _ (x, r) G e (λ _ e. down_some bs x r e)
    (λ _ e. number_form_some bs x r e))

-- a name begins with no `$`
no_log : (x : Name) (r : List ℕ) → IsTrue (is_read_name x) → begins (codes "$log") (x ++ r) ≡ false
no_log [] r h = absurd (cc)
no_log (b ∷ bs) r h =
    let w = and_parts (is_word_byte b) (all_word_bytes bs) (name_words (b ∷ bs) h) in
    ap (λ t. t && begins (codes "log") (bs ++ r)) (no_byte b 36 w.0 refl)

form_finds : (x : AttemptLine) (r : List ℕ) → IsAttemptLine x → attempt_form (fields (attempt_fields x) ++ 10 ∷ r) ≡ Some (x, r)
unfolding attempt_form number_form number_word held_form held_at held_component down_form
form_finds (StepLine n) r h = ap attempt_form (sym (word_said StepWord n r)) ∙ then_at _ _ _ StepWord (decimal n ++ 10 ∷ r) (word_finds (codes "step ") StepWord (decimal n ++ 10 ∷ r)) (then_at _ _ _ n r (last_number_finds n r h) refl)
form_finds (NoteLine Blocked n) r h = ap attempt_form (sym (word_said (NoteWord Blocked) n r)) ∙ then_at _ _ _ (NoteWord Blocked) (decimal n ++ 10 ∷ r) (word_finds (codes "note blocked ") (NoteWord Blocked) (decimal n ++ 10 ∷ r)) (then_at _ _ _ n r (last_number_finds n r h) refl)
form_finds (NoteLine NoValue n) r h = ap attempt_form (sym (word_said (NoteWord NoValue) n r)) ∙ then_at _ _ _ (NoteWord NoValue) (decimal n ++ 10 ∷ r) (word_finds (codes "note novalue ") (NoteWord NoValue) (decimal n ++ 10 ∷ r)) (then_at _ _ _ n r (last_number_finds n r h) refl)
form_finds (NoteLine AssertFails n) r h = ap attempt_form (sym (word_said (NoteWord AssertFails) n r)) ∙ then_at _ _ _ (NoteWord AssertFails) (decimal n ++ 10 ∷ r) (word_finds (codes "note assert ") (NoteWord AssertFails) (decimal n ++ 10 ∷ r)) (then_at _ _ _ n r (last_number_finds n r h) refl)
form_finds (NoteLine Many n) r h = ap attempt_form (sym (word_said (NoteWord Many) n r)) ∙ then_at _ _ _ (NoteWord Many) (decimal n ++ 10 ∷ r) (word_finds (codes "many 65536 ") (NoteWord Many) (decimal n ++ 10 ∷ r)) (then_at _ _ _ n r (last_number_finds n r h) refl)
form_finds (FullLine n) r h = ap attempt_form (sym (word_said FullWord n r)) ∙ then_at _ _ _ FullWord (decimal n ++ 10 ∷ r) (word_finds (codes "full ") FullWord (decimal n ++ 10 ∷ r)) (then_at _ _ _ n r (last_number_finds n r h) refl)
form_finds (HeldLogLine k) r h =
    ap attempt_form (sym (log_nest (codes "held ") (decimal k) r))
    ∙ then_at _ _ _ k (codes "$log\n" ++ r) (number_field_finds k (codes "$log\n" ++ r) h) (word_finds (codes "$log\n") (HeldLogLine k) r)
form_finds (HeldLine k x o) r h =
    let on : List ℕ = index_text o ++ 10 ∷ r in
    ap attempt_form (sym (refused_nest (codes "held ") (decimal k) x o r))
    ∙ then_at _ _ _ k (x ++ on) (number_field_finds k (x ++ on) h.0)
    (cond_false (begins (codes "$log") (x ++ on)) _ _ (no_log x on h.1) ∙ then_at _ _ _ (x, o) r (component_finds x o r h.1 h.2) refl)
form_finds (DownLine k x o) r h =
    let on : List ℕ = index_text o ++ 10 ∷ r in
    ap attempt_form (sym (refused_nest (codes "down ") (decimal k) x o r))
    ∙ then_at _ _ _ k (x ++ on) (number_field_finds k (x ++ on) h.0) (then_at _ _ _ (x, o) r (component_finds x o r h.1 h.2) refl)

-- ---- attempts

attempt_nest : (a w f r : List ℕ) → (line (a ++ codes " " ++ w) ++ f) ++ r ≡ a ++ 32 ∷ (w ++ 10 ∷ (f ++ r))
attempt_nest a w f r = simp append_assoc

-- the fields behind a number
fields_behind : (a : List ℕ) (x : AttemptLine) → fields (a ∷ attempt_fields x) ≡ a ++ codes " " ++ fields (attempt_fields x)
fields_behind a (StepLine n) = refl
fields_behind a (NoteLine kind n) = refl
fields_behind a (HeldLine k x o) = refl
fields_behind a (HeldLogLine k) = refl
fields_behind a (DownLine k x o) = refl
fields_behind a (FullLine n) = refl

lines_nest : (a : ℕ) (x : AttemptLine) (f r : List ℕ) → (line (fields (decimal a ∷ attempt_fields x)) ++ f) ++ r ≡ decimal a ++ 32 ∷ (fields (attempt_fields x) ++ 10 ∷ (f ++ r))
lines_nest a x f r = (λ i. (line (fields_behind (decimal a) x i) ++ f) ++ r) ∙ attempt_nest (decimal a) (fields (attempt_fields x)) f r

-- the attempts behind those that were read
pub record AttemptsText (left a : ℕ) (done all : List AttemptLine) (bs r : List ℕ) : Type 0 where
  pub behind : List AttemptLine
  pub is_all : all ≡ done ++ behind
  pub text_is : bs ≡ flatten (attempt_lines a behind) ++ r
  pub count : length behind ≡ left
  pub read : AreAttemptLines behind

pub attempts_some : (left a : ℕ) (done : List AttemptLine) (bs : List ℕ) (all : List AttemptLine) (r : List ℕ) → attempts left a done bs ≡ Some (all, r) → AttemptsText left a done all bs r
unfolding attempts attempt_line
attempts_some zero a done bs all r e =
    let same = some_pair done all bs r e in
    record { behind = []; is_all = sym same.0 ∙ sym (append-nil done); text_is = same.1; count = refl; read = tt }
attempts_some (suc left) a done bs all r e =
    let G : Type 0 = AttemptsText (suc left) a done all bs r in
    bind_then (attempt_line a bs) _ _ G e (λ x i got e. bind_then _ _ _ G got (λ t j b got.
    let number = this_field_some a bs t j b in
    let one = form_some j x i got in
    let more = attempts_some left (suc a) (done ++ x ∷ []) i all r e in
    let f : List ℕ = flatten (attempt_lines (suc a) more.behind) in
    record {
      behind = x ∷ more.behind;
      is_all = more.is_all ∙ append_assoc done (x ∷ []) more.behind;
      text_is = number.0 ∙ ap (λ z. decimal a ++ 32 ∷ z) (one.text_is ∙ ap (λ z. fields (attempt_fields x) ++ 10 ∷ z) more.text_is) ∙ sym (lines_nest a x f r);
      count = ap (λ k. suc k) more.count;
      read = (one.valid, more.read);
    }))

pub attempts_finds : (xs : List AttemptLine) (left a : ℕ) (done : List AttemptLine) (r : List ℕ) → left ≡ length xs → a + length xs ≤ 2 ^ 32 → AreAttemptLines xs → attempts left a done (flatten (attempt_lines a xs) ++ r) ≡ Some (done ++ xs, r)
unfolding attempts attempt_line
attempts_finds [] zero a done r n room h = λ i. Some (sym (append-nil done) i, r)
attempts_finds [] (suc k) a done r n room h = absurd (cc)
attempts_finds (x ∷ xs) zero a done r n room h = absurd (cc)
attempts_finds (x ∷ xs) (suc k) a done r n room h =
    let f : List ℕ = flatten (attempt_lines (suc a) xs) in
    let few : k ≡ length xs = cc in
    let below : a < 2 ^ 32 = omega arith in
    let rooms : suc a + length xs ≤ 2 ^ 32 = omega arith in
    let form_on : List ℕ = fields (attempt_fields x) ++ 10 ∷ (f ++ r) in
    ap (attempts (suc k) a done) (lines_nest a x f r)
    ∙ then_at (attempt_line a (decimal a ++ 32 ∷ form_on)) _ _ x (f ++ r)
    (then_at _ _ _ tt form_on (this_field_finds a form_on below) (form_finds x (f ++ r) h.0))
    (attempts_finds xs k (suc a) (done ++ x ∷ []) r few rooms h.1)
    ∙ (λ i. Some (append_assoc done (x ∷ []) xs i, r))
