-- What entries and notes say of an attempt, one by one: each entry and each note that is the attempt.
use Rattle.std.proofs.Common.{◌≡◌, ◌+◌, ◌⊎◌, inl, inr, ℕ, zero, suc, Bool, true, false, nat_eq, List, [], ◌∷◌, ◌++◌, Some, refl, ap, sym, subst, ◌∙◌, arith}
use Rattle.std.specs.Prelude.{if◌then◌else◌}
use Rattle.std.proofs.lemmas.Bool.{eq-eqb, eqb-true, and_parts, and_from}
use Rattle.pgo_model.specs.Outcome.{Kind}
use Rattle.pgo_model.specs.Machine.{nth}
use Rattle.pgo_bundle.specs.BundleLog.{LoggedNote, LoggedEntry, BundleLog, notes_from, notes_after}
use Rattle.pgo_bundle.specs.Untied.{Claim, Nothing, OneStep, OneNote, Several, and_also, is_of, with_notes, with_entries, claim_of}

pub data Item : Type 0 where
  StepItem : (i : ℕ) → Item
  NoteItem : (kind : Kind) (p j : ℕ) → Item

abbrev pub claimed : Item → Claim
claimed (StepItem i) = OneStep i
claimed (NoteItem kind p j) = OneNote kind p

abbrev pub note_items : (k a p j : ℕ) → List LoggedNote → List Item
note_items k a p j [] = []
note_items k a p j (n ∷ ns) = if is_of k a n.instance n.attempt then NoteItem n.kind p j ∷ note_items k a p (suc j) ns else note_items k a p (suc j) ns

abbrev pub step_item : (k a i : ℕ) → LoggedEntry → List Item
step_item k a i e = if is_of k a e.entry.instance e.entry.attempt then StepItem i ∷ [] else []

-- notes with q entries before them, and the entries behind them
abbrev pub all_items : (k a q : ℕ) → List LoggedNote → List LoggedEntry → List Item
all_items k a q ns [] = note_items k a q 0 ns
all_items k a q ns (e ∷ es) = note_items k a q 0 ns ++ (step_item k a (suc q) e ++ all_items k a (suc q) e.notes es)

abbrev pub items : BundleLog → (k a : ℕ) → List Item
items l k a = all_items k a 0 l.notes l.entries

-- ---- the claim is theirs

abbrev pub adds : Claim → List Item → Claim
adds c [] = c
adds c (x ∷ xs) = adds (and_also c (claimed x)) xs

adds_append : (c : Claim) (xs ys : List Item) → adds c (xs ++ ys) ≡ adds (adds c xs) ys
adds_append c [] ys = refl
adds_append c (x ∷ xs) ys = adds_append (and_also c (claimed x)) xs ys

notes_add : (k a p j : ℕ) (c : Claim) (ns : List LoggedNote) → with_notes k a p c ns ≡ adds c (note_items k a p j ns)
notes_add k a p j c [] = refl
notes_add k a p j c (n ∷ ns) = go (λ c. notes_add k a p (suc j) c ns) (is_of k a n.instance n.attempt)
  where
    go : ((c : Claim) → with_notes k a p c ns ≡ adds c (note_items k a p (suc j) ns)) → (b : Bool)
        → with_notes k a p (if b then and_also c (OneNote n.kind p) else c) ns ≡ adds c (if b then NoteItem n.kind p j ∷ note_items k a p (suc j) ns else note_items k a p (suc j) ns)
    go more true = more (and_also c (OneNote n.kind p))
    go more false = more c

step_adds : (b : Bool) (i : ℕ) (c : Claim) → (if b then and_also c (OneStep i) else c) ≡ adds c (if b then StepItem i ∷ [] else [])
step_adds true i c = refl
step_adds false i c = refl

entries_add : (k a q : ℕ) (c : Claim) (ns : List LoggedNote) (es : List LoggedEntry) → with_entries k a (suc q) (with_notes k a q c ns) es ≡ adds c (all_items k a q ns es)
entries_add k a q c ns [] = notes_add k a q 0 c ns
entries_add k a q c ns (e ∷ es) =
    let first : Claim = with_notes k a q c ns in
    let is : Bool = is_of k a e.entry.instance e.entry.attempt in
    let rest : List Item = all_items k a (suc q) e.notes es in
    let more = entries_add k a (suc q) (if is then and_also first (OneStep (suc q)) else first) e.notes es in
    more ∙ ap (λ c. adds c rest) (step_adds is (suc q) first) ∙ ap (λ c. adds (adds c (step_item k a (suc q) e)) rest) (notes_add k a q 0 c ns)
    ∙ sym (adds_append (adds c (note_items k a q 0 ns)) (step_item k a (suc q) e) rest)
    ∙ sym (adds_append c (note_items k a q 0 ns) (step_item k a (suc q) e ++ rest))

pub claim_is : (l : BundleLog) (k a : ℕ) → claim_of l k a ≡ adds Nothing (items l k a)
claim_is l k a = entries_add k a 0 Nothing l.notes l.entries

adds_several : (xs : List Item) → adds Several xs ≡ Several
adds_several [] = refl
adds_several (x ∷ xs) = adds_several xs

pub two_several : (x y : Item) (xs : List Item) → adds Nothing (x ∷ (y ∷ xs)) ≡ Several
two_several (StepItem i) y xs = adds_several xs
two_several (NoteItem kind p j) y xs = adds_several xs

pub one_step : (i : ℕ) (xs : List Item) → adds Nothing xs ≡ OneStep i → xs ≡ StepItem i ∷ []
one_step i [] e = absurd (cc)
one_step i (StepItem n ∷ []) e = let f : n ≡ i = cc in ap (λ n. StepItem n ∷ []) f
one_step i (NoteItem kind p j ∷ []) e = absurd (cc)
one_step i (x ∷ (y ∷ xs)) e = absurd (let f = sym (two_several x y xs) ∙ e in cc)

pub one_note : (kind : Kind) (p : ℕ) (xs : List Item) → adds Nothing xs ≡ OneNote kind p → (j : ℕ) × (xs ≡ NoteItem kind p j ∷ [])
one_note kind p [] e = absurd (cc)
one_note kind p (StepItem n ∷ []) e = absurd (cc)
one_note kind p (NoteItem found q j ∷ []) e = let f : found ≡ kind = cc in let g : q ≡ p = cc in (j, λ i. NoteItem (f i) (g i) j ∷ [])
one_note kind p (x ∷ (y ∷ xs)) e = absurd (let f = sym (two_several x y xs) ∙ e in cc)

pub no_item : (xs : List Item) → adds Nothing xs ≡ Nothing → xs ≡ []
no_item [] e = refl
no_item (StepItem n ∷ []) e = absurd (cc)
no_item (NoteItem kind p j ∷ []) e = absurd (cc)
no_item (x ∷ (y ∷ xs)) e = absurd (let f = sym (two_several x y xs) ∙ e in cc)

-- ---- which items there are

abbrev pub IsIn : Item → List Item → Type 0
IsIn x [] = ⊥
IsIn x (y ∷ ys) = (x ≡ y) ⊎ IsIn x ys

in_first : (x : Item) (xs ys : List Item) → IsIn x xs → IsIn x (xs ++ ys)
in_first x [] ys h = absurd h
in_first x (y ∷ xs) ys (inl e) = inl e
in_first x (y ∷ xs) ys (inr h) = inr (in_first x xs ys h)

in_second : (x : Item) (xs ys : List Item) → IsIn x ys → IsIn x (xs ++ ys)
in_second x [] ys h = h
in_second x (y ∷ xs) ys h = inr (in_second x xs ys h)

in_append : (x : Item) (xs ys : List Item) → IsIn x (xs ++ ys) → IsIn x xs ⊎ IsIn x ys
in_append x [] ys h = inr h
in_append x (y ∷ xs) ys (inl e) = inl (inl e)
in_append x (y ∷ xs) ys (inr h) = go (in_append x xs ys h)
  where
    go : IsIn x xs ⊎ IsIn x ys → IsIn x (y ∷ xs) ⊎ IsIn x ys
    go (inl h) = inl (inr h)
    go (inr h) = inr h

is_its : (k a j b : ℕ) → j ≡ k → b ≡ a → is_of k a j b ≡ true
is_its k a j b e f = and_from (nat_eq j k) (nat_eq b a) (eq-eqb j k e) (eq-eqb b a f)

its_is : (k a j b : ℕ) → is_of k a j b ≡ true → (j ≡ k) × (b ≡ a)
its_is k a j b h = let t = and_parts (nat_eq j k) (nat_eq b a) h in (eqb-true j k t.0, eqb-true b a t.1)

kept : (b : Bool) (x y : Item) (rest : List Item) → IsIn x rest → IsIn x (if b then y ∷ rest else rest)
kept true x y rest h = inr h
kept false x y rest h = h

-- notes

in_notes : (k a p j i : ℕ) (ns : List LoggedNote) (n : LoggedNote) → nth ns i ≡ Some n → n.instance ≡ k → n.attempt ≡ a → IsIn (NoteItem n.kind p (j + i)) (note_items k a p j ns)
in_notes k a p j i [] n e f g = absurd (cc)
in_notes k a p j zero (m ∷ ns) n e f g =
    let same : m ≡ n = cc in
    let is = ap (λ (x : LoggedNote). is_of k a x.instance x.attempt) same ∙ is_its k a n.instance n.attempt f g in
    let here : j + 0 ≡ j = omega arith in
    subst (λ b. IsIn (NoteItem n.kind p (j + 0)) (if b then NoteItem m.kind p j ∷ note_items k a p (suc j) ns else note_items k a p (suc j) ns)) (sym is)
    (inl (λ t. NoteItem (sym same t).kind p (here t)))
in_notes k a p j (suc i) (m ∷ ns) n e f g =
    let rest = in_notes k a p (suc j) i ns n e f g in
    let there : suc j + i ≡ j + suc i = omega arith in
    kept (is_of k a m.instance m.attempt) (NoteItem n.kind p (j + suc i)) (NoteItem m.kind p j) (note_items k a p (suc j) ns) (subst (λ z. IsIn (NoteItem n.kind p z) (note_items k a p (suc j) ns)) there rest)

-- those from the first place on
in_first_notes : (k a q j : ℕ) (ns : List LoggedNote) (n : LoggedNote) → nth ns j ≡ Some n → n.instance ≡ k → n.attempt ≡ a → IsIn (NoteItem n.kind q j) (note_items k a q 0 ns)
in_first_notes k a q j ns n e f g =
    let same : 0 + j ≡ j = omega arith in
    subst (λ z. IsIn (NoteItem n.kind q z) (note_items k a q 0 ns)) same (in_notes k a q 0 j ns n e f g)

abbrev pub note_of : (k a : ℕ) → Kind → LoggedNote
note_of k a kind = record { instance = k; attempt = a; kind = kind }

-- what is among the items of notes
abbrev IsNoteOf : (k a p j : ℕ) → List LoggedNote → Item → Type 0
IsNoteOf k a p j ns (StepItem i) = ⊥
IsNoteOf k a p j ns (NoteItem kind q m) = (i : ℕ) × (q ≡ p) × (m ≡ j + i) × (nth ns i ≡ Some (note_of k a kind))

notes_in : (k a p j : ℕ) (ns : List LoggedNote) (x : Item) → IsIn x (note_items k a p j ns) → IsNoteOf k a p j ns x
notes_in k a p j [] x h = absurd h
notes_in k a p j (n ∷ ns) x h = go (notes_in k a p (suc j) ns x) (is_of k a n.instance n.attempt) refl h
  where
    later : (x : Item) → IsNoteOf k a p (suc j) ns x → IsNoteOf k a p j (n ∷ ns) x
    later (StepItem i) h = h
    later (NoteItem kind q m) h = (suc h.0, h.1, (let e = h.2 in omega (arith, e)), h.3)

    here : (x : Item) → is_of k a n.instance n.attempt ≡ true → x ≡ NoteItem n.kind p j → IsNoteOf k a p j (n ∷ ns) x
    here x is e =
        let t = its_is k a n.instance n.attempt is in
        let made : ◌≡◌ {A = LoggedNote} n (note_of k a n.kind) = λ i. record { instance = t.0 i; attempt = t.1 i; kind = n.kind } in
        subst (IsNoteOf k a p j (n ∷ ns)) (sym e) (0, refl, (omega arith), ap Some made)

    go : (IsIn x (note_items k a p (suc j) ns) → IsNoteOf k a p (suc j) ns x) → (b : Bool) → is_of k a n.instance n.attempt ≡ b
        → IsIn x (if b then NoteItem n.kind p j ∷ note_items k a p (suc j) ns else note_items k a p (suc j) ns) → IsNoteOf k a p j (n ∷ ns) x
    go rec true is (inl e) = here x is e
    go rec true is (inr h) = later x (rec h)
    go rec false is h = later x (rec h)

-- ---- entries with the notes behind them

in_step : (k a i : ℕ) (e : LoggedEntry) → e.entry.instance ≡ k → e.entry.attempt ≡ a → IsIn (StepItem i) (step_item k a i e)
in_step k a i e f g = subst (λ b. IsIn (StepItem i) (if b then StepItem i ∷ [] else [])) (sym (is_its k a e.entry.instance e.entry.attempt f g)) (inl refl)

step_in : (k a i : ℕ) (e : LoggedEntry) (x : Item) → IsIn x (step_item k a i e) → (x ≡ StepItem i) × (e.entry.instance ≡ k) × (e.entry.attempt ≡ a)
step_in k a i e x h = go (is_of k a e.entry.instance e.entry.attempt) refl h
  where
    go : (b : Bool) → is_of k a e.entry.instance e.entry.attempt ≡ b → IsIn x (if b then StepItem i ∷ [] else []) → (x ≡ StepItem i) × (e.entry.instance ≡ k) × (e.entry.attempt ≡ a)
    go true is (inl f) = let t = its_is k a e.entry.instance e.entry.attempt is in (f, t.0, t.1)
    go true is (inr h) = absurd h
    go false is h = absurd h

in_steps : (k a q i : ℕ) (ns : List LoggedNote) (es : List LoggedEntry) (e : LoggedEntry) → nth es i ≡ Some e → e.entry.instance ≡ k → e.entry.attempt ≡ a → IsIn (StepItem (suc (q + i))) (all_items k a q ns es)
in_steps k a q i ns [] e h f g = absurd (cc)
in_steps k a q zero ns (d ∷ es) e h f g =
    let same : d ≡ e = cc in
    let here : suc q ≡ suc (q + 0) = omega arith in
    let x : Item = StepItem (suc (q + 0)) in
    let rest : List Item = all_items k a (suc q) d.notes es in
    let found = in_step k a (suc q) d (ap (λ (z : LoggedEntry). z.entry.instance) same ∙ f) (ap (λ (z : LoggedEntry). z.entry.attempt) same ∙ g) in
    in_second x (note_items k a q 0 ns) (step_item k a (suc q) d ++ rest) (in_first x (step_item k a (suc q) d) rest (subst (λ n. IsIn (StepItem n) (step_item k a (suc q) d)) here found))
in_steps k a q (suc i) ns (d ∷ es) e h f g =
    let there : suc (suc q + i) ≡ suc (q + suc i) = omega arith in
    let x : Item = StepItem (suc (q + suc i)) in
    let rest : List Item = all_items k a (suc q) d.notes es in
    let found = in_steps k a (suc q) i d.notes es e h f g in
    in_second x (note_items k a q 0 ns) (step_item k a (suc q) d ++ rest) (in_second x (step_item k a (suc q) d) rest (subst (λ n. IsIn (StepItem n) rest) there found))

in_all_notes : (k a q p j : ℕ) (ns : List LoggedNote) (es : List LoggedEntry) (n : LoggedNote) → nth (notes_from ns es p) j ≡ Some n → n.instance ≡ k → n.attempt ≡ a
    → IsIn (NoteItem n.kind (q + p) j) (all_items k a q ns es)
in_all_notes k a q zero j ns [] n h f g =
    let here : q ≡ q + 0 = omega arith in
    subst (λ z. IsIn (NoteItem n.kind z j) (note_items k a q 0 ns)) here (in_first_notes k a q j ns n h f g)
in_all_notes k a q (suc p) j ns [] n h f g = absurd (cc)
in_all_notes k a q zero j ns (d ∷ es) n h f g =
    let here : q ≡ q + 0 = omega arith in
    in_first (NoteItem n.kind (q + 0) j) (note_items k a q 0 ns) (step_item k a (suc q) d ++ all_items k a (suc q) d.notes es)
    (subst (λ z. IsIn (NoteItem n.kind z j) (note_items k a q 0 ns)) here (in_first_notes k a q j ns n h f g))
in_all_notes k a q (suc p) j ns (d ∷ es) n h f g =
    let there : suc q + p ≡ q + suc p = omega arith in
    let x : Item = NoteItem n.kind (q + suc p) j in
    let rest : List Item = all_items k a (suc q) d.notes es in
    let found = in_all_notes k a (suc q) p j d.notes es n h f g in
    in_second x (note_items k a q 0 ns) (step_item k a (suc q) d ++ rest) (in_second x (step_item k a (suc q) d) rest (subst (λ z. IsIn (NoteItem n.kind z j) rest) there found))

-- what is among all items
abbrev pub IsAt : (k a q : ℕ) → List LoggedNote → List LoggedEntry → Item → Type 0
IsAt k a q ns es (StepItem i) = (j : ℕ) × (e : LoggedEntry) × (i ≡ suc (q + j)) × (nth es j ≡ Some e) × (e.entry.instance ≡ k) × (e.entry.attempt ≡ a)
IsAt k a q ns es (NoteItem kind r j) = (p : ℕ) × (r ≡ q + p) × (nth (notes_from ns es p) j ≡ Some (note_of k a kind))

note_at : (k a q : ℕ) (ns : List LoggedNote) (es : List LoggedEntry) (x : Item) → IsNoteOf k a q 0 ns x → IsAt k a q ns es x
note_at k a q ns es (StepItem i) h = absurd h
note_at k a q ns es (NoteItem kind r j) h =
    let same : h.0 ≡ j = let e = h.2 in omega (arith, e) in
    (0, (let e = h.1 in omega (arith, e)), first es (subst (λ i. nth ns i ≡ Some (note_of k a kind)) same h.3))
  where
    first : (es : List LoggedEntry) → nth ns j ≡ Some (note_of k a kind) → nth (notes_from ns es 0) j ≡ Some (note_of k a kind)
    first es h = h

later_at : (k a q : ℕ) (ns : List LoggedNote) (d : LoggedEntry) (es : List LoggedEntry) (x : Item) → IsAt k a (suc q) d.notes es x → IsAt k a q ns (d ∷ es) x
later_at k a q ns d es (StepItem i) h = (suc h.0, h.1, (let e = h.2 in omega (arith, e)), h.3, h.4, h.5)
later_at k a q ns d es (NoteItem kind r j) h = (suc h.0, (let e = h.1 in omega (arith, e)), h.2)

items_at : (k a q : ℕ) (ns : List LoggedNote) (es : List LoggedEntry) (x : Item) → IsIn x (all_items k a q ns es) → IsAt k a q ns es x
items_at k a q ns [] x h = note_at k a q ns [] x (notes_in k a q 0 ns x h)
items_at k a q ns (d ∷ es) x h =
    go (items_at k a (suc q) d.notes es x) (in_append x (note_items k a q 0 ns) (step_item k a (suc q) d ++ all_items k a (suc q) d.notes es) h)
  where
    step : (x ≡ StepItem (suc q)) × (d.entry.instance ≡ k) × (d.entry.attempt ≡ a) → IsAt k a q ns (d ∷ es) x
    step h = subst (IsAt k a q ns (d ∷ es)) (sym h.0) (0, d, (omega arith), refl, h.1, h.2)

    behind : (IsIn x (all_items k a (suc q) d.notes es) → IsAt k a (suc q) d.notes es x) → IsIn x (step_item k a (suc q) d) ⊎ IsIn x (all_items k a (suc q) d.notes es) → IsAt k a q ns (d ∷ es) x
    behind rec (inl h) = step (step_in k a (suc q) d x h)
    behind rec (inr h) = later_at k a q ns d es x (rec h)

    go : (IsIn x (all_items k a (suc q) d.notes es) → IsAt k a (suc q) d.notes es x)
        → IsIn x (note_items k a q 0 ns) ⊎ IsIn x (step_item k a (suc q) d ++ all_items k a (suc q) d.notes es) → IsAt k a q ns (d ∷ es) x
    go rec (inl h) = note_at k a q ns (d ∷ es) x (notes_in k a q 0 ns x h)
    go rec (inr h) = behind rec (in_append x (step_item k a (suc q) d) (all_items k a (suc q) d.notes es) h)

-- ---- of a log

pub entry_item : (l : BundleLog) (k a i : ℕ) (e : LoggedEntry) → nth l.entries i ≡ Some e → e.entry.instance ≡ k → e.entry.attempt ≡ a → IsIn (StepItem (suc i)) (items l k a)
entry_item l k a i e h f g =
    let same : suc (0 + i) ≡ suc i = omega arith in
    subst (λ n. IsIn (StepItem n) (items l k a)) same (in_steps k a 0 i l.notes l.entries e h f g)

pub note_item : (l : BundleLog) (k a p j : ℕ) (n : LoggedNote) → nth (notes_after l p) j ≡ Some n → n.instance ≡ k → n.attempt ≡ a → IsIn (NoteItem n.kind p j) (items l k a)
note_item l k a p j n h f g =
    let same : 0 + p ≡ p = omega arith in
    subst (λ z. IsIn (NoteItem n.kind z j) (items l k a)) same (in_all_notes k a 0 p j l.notes l.entries n h f g)

pub item_is : (l : BundleLog) (k a : ℕ) (x : Item) → IsIn x (items l k a) → IsAt k a 0 l.notes l.entries x
item_is l k a x h = items_at k a 0 l.notes l.entries x h

-- ---- each item stands once

abbrev pub Distinct : List Item → Type 0
Distinct [] = Unit {0}
Distinct (x ∷ xs) = (IsIn x xs → ⊥) × Distinct xs

distinct_append : (xs ys : List Item) → Distinct xs → Distinct ys → ((x : Item) → IsIn x xs → IsIn x ys → ⊥) → Distinct (xs ++ ys)
distinct_append [] ys d e apart = e
distinct_append (x ∷ xs) ys d e apart = ((λ h. go (in_append x xs ys h)), distinct_append xs ys d.1 e (λ y h. apart y (inr h)))
  where
    go : IsIn x xs ⊎ IsIn x ys → ⊥
    go (inl h) = d.0 h
    go (inr h) = apart x (inl refl) h

distinct_notes : (k a p j : ℕ) (ns : List LoggedNote) → Distinct (note_items k a p j ns)
distinct_notes k a p j [] = tt
distinct_notes k a p j (n ∷ ns) = go (distinct_notes k a p (suc j) ns) (is_of k a n.instance n.attempt)
  where
    go : Distinct (note_items k a p (suc j) ns) → (b : Bool) → Distinct (if b then NoteItem n.kind p j ∷ note_items k a p (suc j) ns else note_items k a p (suc j) ns)
    go rest true = ((λ h. let q = notes_in k a p (suc j) ns (NoteItem n.kind p j) h in let e = q.2 in omega (arith, e)), rest)
    go rest false = rest

distinct_step : (i : ℕ) (b : Bool) → Distinct (if b then StepItem i ∷ [] else [])
distinct_step i true = ((λ h. h), tt)
distinct_step i false = tt

-- what is among notes with q entries before them isn't among what comes behind them
notes_apart : (k a q : ℕ) (ns : List LoggedNote) (d : LoggedEntry) (es : List LoggedEntry) (x : Item) → IsIn x (note_items k a q 0 ns) → IsIn x (step_item k a (suc q) d ++ all_items k a (suc q) d.notes es) → ⊥
notes_apart k a q ns d es (StepItem i) h g = notes_in k a q 0 ns (StepItem i) h
notes_apart k a q ns d es (NoteItem kind r m) h g = go (in_append (NoteItem kind r m) (step_item k a (suc q) d) (all_items k a (suc q) d.notes es) g)
  where
    go : IsIn (NoteItem kind r m) (step_item k a (suc q) d) ⊎ IsIn (NoteItem kind r m) (all_items k a (suc q) d.notes es) → ⊥
    go (inl g) = absurd (let t = (step_in k a (suc q) d (NoteItem kind r m) g).0 in cc)
    go (inr g) =
        let here = (notes_in k a q 0 ns (NoteItem kind r m) h).1 in
        let there = (items_at k a (suc q) d.notes es (NoteItem kind r m) g).1 in
        omega (arith, here, there)

step_apart : (k a q : ℕ) (d : LoggedEntry) (es : List LoggedEntry) (x : Item) → IsIn x (step_item k a (suc q) d) → IsIn x (all_items k a (suc q) d.notes es) → ⊥
step_apart k a q d es x h g =
    let is = (step_in k a (suc q) d x h).0 in
    let there = (items_at k a (suc q) d.notes es (StepItem (suc q)) (subst (λ z. IsIn z (all_items k a (suc q) d.notes es)) is g)).2 in
    omega (arith, there)

distinct_items : (k a q : ℕ) (ns : List LoggedNote) (es : List LoggedEntry) → Distinct (all_items k a q ns es)
distinct_items k a q ns [] = distinct_notes k a q 0 ns
distinct_items k a q ns (e ∷ es) =
    let rest : List Item = all_items k a (suc q) e.notes es in
    distinct_append (note_items k a q 0 ns) (step_item k a (suc q) e ++ rest) (distinct_notes k a q 0 ns)
    (distinct_append (step_item k a (suc q) e) rest (distinct_step (suc q) (is_of k a e.entry.instance e.entry.attempt)) (distinct_items k a (suc q) e.notes es) (step_apart k a q e es))
    (notes_apart k a q ns e es)

only_of : (x : Item) (xs : List Item) → Distinct xs → ((y : Item) → IsIn y xs → y ≡ x) → IsIn x xs → xs ≡ x ∷ []
only_of x [] d all h = absurd h
only_of x (y ∷ []) d all h = ap (λ z. z ∷ []) (all y (inl refl))
only_of x (y ∷ (z ∷ xs)) d all h = absurd (d.0 (inl (all y (inl refl) ∙ sym (all z (inr (inl refl))))))

-- an attempt of which there is one item, and one of which there is none
pub only_item : (l : BundleLog) (k a : ℕ) (x : Item) → ((y : Item) → IsIn y (items l k a) → y ≡ x) → IsIn x (items l k a) → items l k a ≡ x ∷ []
only_item l k a x all h = only_of x (items l k a) (distinct_items k a 0 l.notes l.entries) all h

pub none_of : (xs : List Item) → ((y : Item) → IsIn y xs → ⊥) → xs ≡ []
none_of [] h = refl
none_of (y ∷ ys) h = absurd (h y (inl refl))
