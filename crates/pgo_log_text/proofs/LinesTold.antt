-- What entries of version 2 tell besides: prints and notes.
use Rattle.std.proofs.Common.{◌≡◌, ◌<◌, ◌≤◌, ◌^◌, ℕ, zero, suc, Bool, true, false, List, [], ◌∷◌, ◌++◌, length, map, decimal, Option, Some, None, refl, sym, ap, subst, ◌∙◌, append_assoc, length-append, arith}
use Rattle.std.specs.Prelude.{codes}
use Rattle.std.proofs.lemmas.List.{append-nil}
use Rattle.pgo_base.specs.Data.{Data}
use Rattle.pgo_model.specs.ValueText.{value_text}
use Rattle.pgo_model.specs.ModuleText.{Line, line, flatten}
use Rattle.pgo_model.specs.Machine.{Entry}
use Rattle.pgo_model.specs.Log.{Change, Effect}
use Rattle.pgo_model.specs.Outcome.{Kind, Blocked, NoValue, AssertFails, Many}
use Rattle.pgo_model.specs.Bundle.{fields, change_line}
use Rattle.pgo_bundle.specs.Lines.{found_text, note_line, prints_count as count_text, print_line, prints_lines, logged_lines}
use Rattle.pgo_value_text.proofs.Steps.{if_some, cond_false, bind_then, then_at, some_pair}
use Rattle.pgo_value_text.proofs.Runs.{expected, expects, begun}
use Rattle.pgo_log_text.specs.IsBundle.{IsCanonicalValue, LoggedNote, LoggedEntry, AreChanges, IsEntry, AreValues, ArePrints, IsNote, AreNotes, IsLogged}
use Rattle.pgo_log_text.specs.Parsers.{Outcome}
use Rattle.pgo_log_text.specs.Bytes.{begins, number}
use Rattle.pgo_log_text.specs.Lines.{word_of, untold, told, prints_count, print, prints, all_prints, prints_told, found, note, any_note, notes, entry_front, entry_made, entry_told, logged_entry}
use Rattle.pgo_log_text.proofs.BytesNumbers.{number_finds}
use Rattle.pgo_log_text.proofs.LinesFields.{number_field_some, number_field_finds, last_number_some, last_number_finds, last_value_some, last_value_finds}
use Rattle.pgo_log_text.proofs.LinesChanges.{changes_some, changes_finds}
use Rattle.pgo_log_text.proofs.LinesParts.{texts, Each, PartText, parts_some, parts_finds}
use Rattle.pgo_log_text.proofs.LinesEntries.{flatten_append, Front, front_text, front_some, front_finds, front_of, front_is, made_is, itself}

-- ---- words

pub word_some : {A : Type 0} (w : List ℕ) (m a : A) (bs r : List ℕ) → word_of w m bs ≡ Some (a, r) → (bs ≡ w ++ r) × (m ≡ a)
unfolding word_of
word_some {A} w m a bs r e =
    let G : Type 0 = (bs ≡ w ++ r) × (m ≡ a) in
    bind_then _ _ _ G e (λ u i h e. let same = some_pair m a i r e in (expected w bs u i h ∙ ap (λ z. w ++ z) same.1, same.0))

pub word_finds : {A : Type 0} (w : List ℕ) (m : A) (r : List ℕ) → word_of w m (w ++ r) ≡ Some (m, r)
unfolding word_of
word_finds w m r = then_at _ _ _ tt r (expects w r) refl

-- ---- how many values were printed

abbrev number_told : Option ℕ → List ℕ
number_told None = codes "-"
number_told (Some n) = decimal n

abbrev IsCount : Option ℕ → Type 0
IsCount None = Unit {0}
IsCount (Some n) = n < 2 ^ 32

count_some : (bs : List ℕ) (o : Option ℕ) (r : List ℕ) → prints_count bs ≡ Some (o, r) → (bs ≡ number_told o ++ 10 ∷ r) × IsCount o
unfolding prints_count untold told
count_some bs o r e =
    let G : Option ℕ → Type 0 = λ o. (bs ≡ number_told o ++ 10 ∷ r) × IsCount o in
    if_some (begins (codes "-") bs) _ _ (o, r) (G o) e
    (λ _ e. let w = word_some {A = Option ℕ} (codes "-\n") None o bs r e in subst G w.1 (w.0, tt))
    (λ _ e. bind_then _ _ _ (G o) e (λ n i h e.
    let read = last_number_some bs n i h in
    let same = some_pair {A = Option ℕ} (Some n) o i r e in
    subst G same.0 (read.0 ∙ ap (λ z. decimal n ++ 10 ∷ z) same.1, read.1)))

-- a number doesn't begin with `-`
dash_none : (r : List ℕ) → number (45 ∷ r) ≡ None
unfolding number Rattle.pgo_log_text.specs.Bytes.natural Rattle.pgo_log_text.specs.Bytes.natural_of
dash_none r = refl

no_dash : (n : ℕ) (r : List ℕ) → n < 2 ^ 32 → begins (codes "-") (decimal n ++ 10 ∷ r) ≡ false
no_dash n r h = go (begins (codes "-") (decimal n ++ 10 ∷ r)) refl
  where
    go : (b : Bool) → begins (codes "-") (decimal n ++ 10 ∷ r) ≡ b → b ≡ false
    go false e = refl
    go true e =
        let d = begun (codes "-") (decimal n ++ 10 ∷ r) e in
        let f = sym (number_finds n (10 ∷ r) h refl) ∙ ap number d.1 ∙ dash_none d.0 in
        absurd (cc)

count_finds : (o : Option ℕ) (r : List ℕ) → IsCount o → prints_count (number_told o ++ 10 ∷ r) ≡ Some (o, r)
unfolding prints_count untold told
count_finds None r h = word_finds {A = Option ℕ} (codes "-\n") None r
count_finds (Some n) r h = cond_false (begins (codes "-") (decimal n ++ 10 ∷ r)) _ _ (no_dash n r h) ∙ then_at _ _ _ n r (last_number_finds n r h) refl

-- ---- prints

print_nest : (v f r : List ℕ) → (line (codes "print " ++ v) ++ f) ++ r ≡ codes "print " ++ (v ++ 10 ∷ (f ++ r))
print_nest v f r = simp append_assoc

print_some : (bs : List ℕ) (v : Data) (r : List ℕ) → print bs ≡ Some (v, r) → (bs ≡ codes "print " ++ (value_text v ++ 10 ∷ r)) × IsCanonicalValue v
unfolding print
print_some bs v r e =
    let G : Type 0 = (bs ≡ codes "print " ++ (value_text v ++ 10 ∷ r)) × IsCanonicalValue v in
    bind_then _ _ _ G e (λ u i h e. let read = last_value_some i v r e in (expected (codes "print ") bs u i h ∙ ap (λ z. codes "print " ++ z) read.0, read.1))

print_finds : (v : Data) (r : List ℕ) → IsCanonicalValue v → print (codes "print " ++ (value_text v ++ 10 ∷ r)) ≡ Some (v, r)
unfolding print
print_finds v r h = last_value_finds v r h

-- the values behind those that were read
record PrintsText (n : ℕ) (done all : List Data) (bs r : List ℕ) : Type 0 where
  behind : List Data
  is_all : all ≡ done ++ behind
  text_is : bs ≡ flatten (map print_line behind) ++ r
  count : length behind ≡ n
  read : AreValues behind

prints_some : (n : ℕ) (done : List Data) (bs : List ℕ) (all : List Data) (r : List ℕ) → prints n done bs ≡ Some (all, r) → PrintsText n done all bs r
unfolding prints
prints_some zero done bs all r e =
    let same = some_pair done all bs r e in
    record { behind = []; is_all = sym same.0 ∙ sym (append-nil done); text_is = same.1; count = refl; read = tt }
prints_some (suc n) done bs all r e =
    let G : Type 0 = PrintsText (suc n) done all bs r in
    bind_then _ _ _ G e (λ v i h e.
    let one = print_some bs v i h in
    let more = prints_some n (done ++ v ∷ []) i all r e in
    record {
      behind = v ∷ more.behind;
      is_all = more.is_all ∙ append_assoc done (v ∷ []) more.behind;
      text_is = one.0 ∙ ap (λ z. codes "print " ++ (value_text v ++ 10 ∷ z)) more.text_is ∙ sym (print_nest (value_text v) (flatten (map print_line more.behind)) r);
      count = ap (λ k. suc k) more.count;
      read = (one.1, more.read);
    })

prints_finds : (vs : List Data) (n : ℕ) (done : List Data) (r : List ℕ) → n ≡ length vs → AreValues vs → prints n done (flatten (map print_line vs) ++ r) ≡ Some (done ++ vs, r)
unfolding prints
prints_finds [] zero done r n h = λ i. Some (sym (append-nil done) i, r)
prints_finds [] (suc k) done r n h = absurd (cc)
prints_finds (v ∷ vs) zero done r n h = absurd (cc)
prints_finds (v ∷ vs) (suc k) done r n h =
    let rest : List ℕ = flatten (map print_line vs) ++ r in
    let few : k ≡ length vs = cc in
    ap (prints (suc k) done) (print_nest (value_text v) (flatten (map print_line vs)) r)
    ∙ then_at _ _ _ v rest (print_finds v rest h.0) (prints_finds vs k (done ++ v ∷ []) r few h.1)
    ∙ (λ i. Some (append_assoc done (v ∷ []) vs i, r))

abbrev how_many : Option (List Data) → Option ℕ
how_many None = None
how_many (Some vs) = Some (length vs)

count_is : (o : Option (List Data)) → count_text o ≡ number_told (how_many o)
count_is None = refl
count_is (Some vs) = refl

-- what was read where so many are told
record ToldText (q : Option ℕ) (o : Option (List Data)) (bs r : List ℕ) : Type 0 where
  many : how_many o ≡ q
  text_is : bs ≡ flatten (prints_lines o) ++ r
  read : IsCount q → ArePrints o

told_some : (q : Option ℕ) (bs : List ℕ) (o : Option (List Data)) (r : List ℕ) → prints_told q bs ≡ Some (o, r) → ToldText q o bs r
unfolding prints_told all_prints
told_some None bs o r e =
    let same = some_pair {A = Option (List Data)} None o bs r e in
    subst (λ o. ToldText None o bs r) same.0 (record { many = refl; text_is = same.1; read = λ h. tt })
told_some (Some n) bs o r e =
    let G : Option (List Data) → Type 0 = λ o. ToldText (Some n) o bs r in
    bind_then _ _ _ (G o) e (λ vs i h e.
    let all = prints_some n [] bs vs i h in
    let same = some_pair {A = Option (List Data)} (Some vs) o i r e in
    let many : length vs ≡ n = ap length all.is_all ∙ all.count in
    subst G same.0 (record {
      many = ap Some many;
      text_is = all.text_is ∙ (λ j. flatten (map print_line (sym all.is_all j)) ++ same.1 j);
      read = λ h. (subst (λ k. k < 2 ^ 32) (sym many) h, subst AreValues (sym all.is_all) all.read);
    }))

told_finds : (o : Option (List Data)) (r : List ℕ) → ArePrints o → prints_told (how_many o) (flatten (prints_lines o) ++ r) ≡ Some (o, r)
unfolding prints_told all_prints
told_finds None r h = refl
told_finds (Some vs) r h = then_at _ _ _ vs r (prints_finds vs (length vs) [] r refl h.1) refl

how_count : (o : Option (List Data)) → ArePrints o → IsCount (how_many o)
how_count None h = tt
how_count (Some vs) h = h.0

-- ---- notes

found_some : (bs : List ℕ) (k : Kind) (r : List ℕ) → found bs ≡ Some (k, r) → bs ≡ found_text k ++ 10 ∷ r
unfolding found
found_some bs k r e =
    let G : Kind → Type 0 = λ k. bs ≡ found_text k ++ 10 ∷ r in
    if_some (begins (codes "blocked\n") bs) _ _ (k, r) (G k) e (λ _ e. let w = word_some (codes "blocked\n") Blocked k bs r e in subst G w.1 w.0)
    (λ _ e. if_some (begins (codes "novalue\n") bs) _ _ (k, r) (G k) e (λ _ e. let w = word_some (codes "novalue\n") NoValue k bs r e in subst G w.1 w.0)
    (λ _ e. if_some (begins (codes "assert\n") bs) _ _ (k, r) (G k) e (λ _ e. let w = word_some (codes "assert\n") AssertFails k bs r e in subst G w.1 w.0)
    (λ _ e. let w = word_some (codes "many\n") Many k bs r e in subst G w.1 w.0)))

found_finds : (k : Kind) (r : List ℕ) → found (found_text k ++ 10 ∷ r) ≡ Some (k, r)
unfolding found
found_finds Blocked r = word_finds (codes "blocked\n") Blocked r
found_finds NoValue r = word_finds (codes "novalue\n") NoValue r
found_finds AssertFails r = word_finds (codes "assert\n") AssertFails r
found_finds Many r = word_finds (codes "many\n") Many r

note_nest : (k a w r : List ℕ) → line (fields (codes "note" ∷ k ∷ a ∷ w ∷ [])) ++ r ≡ codes "note " ++ (k ++ 32 ∷ (a ++ 32 ∷ (w ++ 10 ∷ r)))
note_nest k a w r = simp append_assoc

note_joined : (b0 b1 b2 b3 r k a w : List ℕ) → b0 ≡ codes "note " ++ b1 → b1 ≡ k ++ 32 ∷ b2 → b2 ≡ a ++ 32 ∷ b3 → b3 ≡ w ++ 10 ∷ r
    → b0 ≡ line (fields (codes "note" ∷ k ∷ a ∷ w ∷ [])) ++ r
note_joined b0 b1 b2 b3 r k a w e0 e1 e2 e3 =
    e0 ∙ ap (λ z. codes "note " ++ z) (e1 ∙ ap (λ z. k ++ 32 ∷ z) (e2 ∙ ap (λ z. a ++ 32 ∷ z) e3)) ∙ sym (note_nest k a w r)

abbrev pub note_text : ℕ → LoggedNote → List ℕ
note_text i n = note_line n

abbrev pub one_note : LoggedNote → LoggedNote
one_note n = n

pub note_some : (i : ℕ) (bs : List ℕ) (n : LoggedNote) (r : List ℕ) → any_note i bs ≡ Some (n, r) → PartText one_note note_text IsNote i bs n r
unfolding note
note_some i bs n r h =
    let G : LoggedNote → Type 0 = λ n. PartText one_note note_text IsNote i bs n r in
    bind_then _ _ _ (G n) h (λ t b1 h0 h. bind_then _ _ _ (G n) h (λ k b2 h1 h. bind_then _ _ _ (G n) h (λ a b3 h2 h. bind_then _ _ _ (G n) h (λ kind b4 h3 h.
    let e1 = number_field_some b1 k b2 h1 in
    let e2 = number_field_some b2 a b3 h2 in
    let e3 = found_some b3 kind b4 h3 in
    let made : LoggedNote = record { instance = k; attempt = a; kind = kind } in
    let same = some_pair {A = LoggedNote} made n b4 r h in
    subst G same.0 (record {
      part = made;
      seen = refl;
      text_is = note_joined bs b1 b2 b3 r (decimal k) (decimal a) (found_text kind) (expected (codes "note ") bs t b1 h0) e1.0 e2.0 (e3 ∙ ap (λ z. found_text kind ++ 10 ∷ z) same.1);
      valid = record { instance = e1.1; attempt = e2.1 };
    })))))

note_finds : (i : ℕ) (n : LoggedNote) (r : List ℕ) → IsNote n → any_note i (note_text i n ++ r) ≡ Some (n, r)
unfolding note
note_finds i n r h =
    let b3 : List ℕ = found_text n.kind ++ 10 ∷ r in
    let b2 : List ℕ = decimal n.attempt ++ 32 ∷ b3 in
    ap note (note_nest (decimal n.instance) (decimal n.attempt) (found_text n.kind) r)
    ∙ then_at _ _ _ n.instance b2 (number_field_finds n.instance b2 h.instance)
    (then_at _ _ _ n.attempt b3 (number_field_finds n.attempt b3 h.attempt)
    (then_at _ _ _ n.kind r (found_finds n.kind r) refl))

note_starts : (i : ℕ) (n : LoggedNote) (r : List ℕ) → begins (codes "note ") (note_text i n ++ r) ≡ true
note_starts i n r = refl

notes_texts : (i : ℕ) (ns : List LoggedNote) → flatten (map note_line ns) ≡ texts note_text i ns
notes_texts i [] = refl
notes_texts i (n ∷ ns) = ap (λ z. note_line n ++ z) (notes_texts (suc i) ns)

notes_same : (ns : List LoggedNote) → map one_note ns ≡ ns
notes_same [] = refl
notes_same (n ∷ ns) = ap (λ z. n ∷ z) (notes_same ns)

are_notes : (ns : List LoggedNote) → Each IsNote ns → AreNotes ns
are_notes [] h = tt
are_notes (n ∷ ns) h = (h.0, are_notes ns h.1)

each_note : (ns : List LoggedNote) → AreNotes ns → Each IsNote ns
each_note [] h = tt
each_note (n ∷ ns) h = (h.0, each_note ns h.1)

pub notes_some : (bs : List ℕ) (ns : List LoggedNote) (r : List ℕ) → notes bs ≡ Some (ns, r) → (bs ≡ flatten (map note_line ns) ++ r) × AreNotes ns
notes_some bs ns r h =
    let p = parts_some (codes "note ") any_note one_note note_text IsNote note_some (length bs) 0 [] bs ns r h in
    let same : ns ≡ p.behind = p.is_all ∙ notes_same p.behind in
    subst (λ ns. (bs ≡ flatten (map note_line ns) ++ r) × AreNotes ns) (sym same) (p.text_is ∙ ap (λ z. z ++ r) (sym (notes_texts 0 p.behind)), are_notes p.behind p.each)

-- each note has a byte
notes_few : (ns : List LoggedNote) (r : List ℕ) → length ns ≤ length (flatten (map note_line ns) ++ r)
notes_few [] r = omega arith
notes_few (n ∷ ns) r =
    let more = notes_few ns r in
    let whole = ap length (append_assoc (note_line n) (flatten (map note_line ns)) r) in
    let joined = length-append (note_line n) (flatten (map note_line ns) ++ r) in
    let first = length-append (fields (codes "note" ∷ decimal n.instance ∷ decimal n.attempt ∷ found_text n.kind ∷ [])) (10 ∷ []) in
    omega (arith, more, whole, joined, first)

pub notes_finds : (ns : List LoggedNote) (r : List ℕ) → AreNotes ns → begins (codes "note ") r ≡ false → notes (flatten (map note_line ns) ++ r) ≡ Some (ns, r)
notes_finds ns r h b =
    let all : List ℕ = flatten (map note_line ns) ++ r in
    ap (λ z. parts_at (length all) (z ++ r)) (notes_texts 0 ns)
    ∙ parts_finds (codes "note ") any_note one_note note_text IsNote (length ns) note_starts (λ i n r below v. note_finds i n r v) (length all) 0 [] ns r (notes_few ns r) (omega arith) (each_note ns h) b
    ∙ ap (λ z. Some (z, r)) (notes_same ns)
  where
    parts_at : ℕ → List ℕ → Outcome (List LoggedNote)
    parts_at n bs = Rattle.pgo_log_text.specs.Lines.parts (codes "note ") any_note n 0 [] bs

-- ---- an entry of version 2

abbrev pub logged_text : ℕ → LoggedEntry → List ℕ
logged_text i e = flatten (logged_lines i e)

first_nest : (n k a l m c q f r : List ℕ) → (line (fields (codes "step" ∷ n ∷ k ∷ a ∷ l ∷ m ∷ c ∷ q ∷ [])) ++ f) ++ r
    ≡ codes "step " ++ (n ++ 32 ∷ (k ++ 32 ∷ (a ++ 32 ∷ (l ++ 32 ∷ (m ++ 32 ∷ (c ++ 32 ∷ (q ++ 10 ∷ (f ++ r))))))))
first_nest n k a l m c q f r = simp append_assoc

rest_nest : (c p n : List Line) (r : List ℕ) → flatten (c ++ (p ++ n)) ++ r ≡ flatten c ++ (flatten p ++ (flatten n ++ r))
rest_nest c p n r =
    ap (λ z. z ++ r) (flatten_append c (p ++ n) ∙ ap (λ z. flatten c ++ z) (flatten_append p n))
    ∙ append_assoc (flatten c) (flatten p ++ flatten n) r ∙ ap (λ z. flatten c ++ z) (append_assoc (flatten p) (flatten n) r)

abbrev behind_front : List Change → Option (List Data) → List ℕ → List ℕ
behind_front cs o r = decimal (length cs) ++ 32 ∷ (count_text o ++ 10 ∷ (flatten (map change_line cs) ++ (flatten (prints_lines o) ++ r)))

logged_nest : (i : ℕ) (e : LoggedEntry) (r : List ℕ) → logged_text i e ++ r ≡ front_text i (front_of e.entry) (behind_front e.entry.change.changes e.prints (flatten (map note_line e.notes) ++ r))
logged_nest i e r =
    let x : Entry Effect = e.entry in
    let cs : List Line = map change_line x.change.changes in
    first_nest (decimal i) (decimal x.instance) (decimal x.attempt) x.change.label x.change.next (decimal (length x.change.changes)) (count_text e.prints) (flatten (cs ++ (prints_lines e.prints ++ map note_line e.notes))) r
    ∙ ap (λ z. front_text i (front_of x) (decimal (length x.change.changes) ++ 32 ∷ (count_text e.prints ++ 10 ∷ z))) (rest_nest cs (prints_lines e.prints) (map note_line e.notes) r)

-- what was read behind the front
record BehindText (f : Front) (p : Entry Effect × Option (List Data)) (bs r : List ℕ) : Type 0 where
  changes : List Change
  made : entry_made f changes ≡ p.0
  text_is : bs ≡ behind_front changes p.1 r
  count : length changes < 2 ^ 32
  are_changes : AreChanges changes
  prints : ArePrints p.1

behind_some : (f : Front) (bs : List ℕ) (p : Entry Effect × Option (List Data)) (r : List ℕ) → entry_told f bs ≡ Some (p, r) → BehindText f p bs r
unfolding entry_told
behind_some f bs p r h =
    let G : Entry Effect × Option (List Data) → Type 0 = λ p. BehindText f p bs r in
    bind_then _ _ _ (G p) h (λ n b1 h0 h. bind_then _ _ _ (G p) h (λ q b2 h1 h. bind_then _ _ _ (G p) h (λ cs b3 h2 h. bind_then _ _ _ (G p) h (λ o b4 h3 h.
    let e0 = number_field_some bs n b1 h0 in
    let e1 = count_some b1 q b2 h1 in
    let e2 = changes_some n [] b2 cs b3 h2 in
    let e3 = told_some q b3 o b4 h3 in
    let same = some_pair {A = Entry Effect × Option (List Data)} (entry_made f cs, o) p b4 r h in
    let many : length cs ≡ n = ap length e2.is_all ∙ e2.count in
    let word : number_told q ≡ count_text o = sym (count_is o ∙ ap number_told e3.many) in
    subst G same.0 (record {
      changes = cs;
      made = refl;
      text_is = e0.0 ∙ (λ j. decimal (sym many j) ++ 32 ∷ (e1.0 ∙ (λ k. word k ++ 10 ∷ (e2.text_is ∙ (λ m. flatten (map change_line (sym e2.is_all m)) ++ (e3.text_is ∙ ap (λ z. flatten (prints_lines o) ++ z) same.1) m)) k)) j);
      count = subst (λ x. x < 2 ^ 32) (sym many) e0.1;
      are_changes = subst AreChanges (sym e2.is_all) e2.read;
      prints = e3.read e1.1;
    })))))

behind_finds : (x : Entry Effect) (o : Option (List Data)) (r : List ℕ) → IsEntry x → ArePrints o → entry_told (front_of x) (behind_front x.change.changes o r) ≡ Some ((x, o), r)
unfolding entry_told
behind_finds x o r h p =
    let cs : List Change = x.change.changes in
    let b3 : List ℕ = flatten (prints_lines o) ++ r in
    let b2 : List ℕ = flatten (map change_line cs) ++ b3 in
    let b1 : List ℕ = count_text o ++ 10 ∷ b2 in
    then_at _ _ _ (length cs) b1 (number_field_finds (length cs) b1 h.count)
    (then_at _ _ _ (how_many o) b2 (ap (λ z. prints_count (z ++ 10 ∷ b2)) (count_is o) ∙ count_finds (how_many o) b2 (how_count o p))
    (then_at _ _ _ cs b3 (changes_finds cs (length cs) [] b3 refl h.changes)
    (then_at _ _ _ o r (told_finds o r p)
    (λ j. Some ((made_is x h.prints j, o), r)))))

pub logged_some : (i : ℕ) (bs : List ℕ) (e : LoggedEntry) (r : List ℕ) → logged_entry i bs ≡ Some (e, r) → PartText itself logged_text IsLogged i bs e r
unfolding logged_entry
logged_some i bs e r h =
    let G : LoggedEntry → Type 0 = λ e. PartText itself logged_text IsLogged i bs e r in
    bind_then _ _ _ (G e) h (λ f b1 h0 h. bind_then _ _ _ (G e) h (λ p b2 h1 h. bind_then _ _ _ (G e) h (λ ns b3 h2 h.
    let e0 = front_some i bs f b1 h0 in
    let e1 = behind_some f b1 p b2 h1 in
    let e2 = notes_some b2 ns b3 h2 in
    let whole : LoggedEntry = record { entry = entry_made f e1.changes; prints = p.1; notes = ns } in
    let joined : ◌≡◌ {A = LoggedEntry} whole (record { entry = p.0; prints = p.1; notes = ns }) = λ j. record { entry = e1.made j; prints = p.1; notes = ns } in
    let same = some_pair {A = LoggedEntry} (record { entry = p.0; prints = p.1; notes = ns }) e b3 r h in
    subst G (joined ∙ same.0) (record {
      part = whole;
      seen = refl;
      text_is = e0.0 ∙ ap (front_text i f) (e1.text_is ∙ ap (behind_front e1.changes p.1) (e2.0 ∙ ap (λ z. flatten (map note_line ns) ++ z) same.1)) ∙ sym (logged_nest i whole r);
      valid = record {
        entry = record { instance = e0.1.instance; attempt = e0.1.attempt; label = e0.1.label; next = e0.1.next; count = e1.count; changes = e1.are_changes; prints = refl };
        prints = e1.prints;
        notes = e2.1;
      };
    }))))

pub logged_finds : (i : ℕ) (e : LoggedEntry) (r : List ℕ) → i < 2 ^ 32 → IsLogged e → begins (codes "note ") r ≡ false → logged_entry i (logged_text i e ++ r) ≡ Some (e, r)
unfolding logged_entry
logged_finds i e r below h b =
    let b2 : List ℕ = flatten (map note_line e.notes) ++ r in
    let b1 : List ℕ = behind_front e.entry.change.changes e.prints b2 in
    ap (logged_entry i) (logged_nest i e r)
    ∙ then_at _ _ _ (front_of e.entry) b1 (front_finds i (front_of e.entry) b1 below (front_is e.entry h.entry))
    (then_at _ _ _ (e.entry, e.prints) b2 (behind_finds e.entry e.prints b2 h.entry h.prints)
    (then_at _ _ _ e.notes r (notes_finds e.notes r h.notes b) refl))
