-- A log that is tied is untied nowhere.
use Rattle.std.proofs.Common.{◌≡◌, ◌≤◌, ◌<◌, ◌+◌, ◌⊎◌, inl, inr, max, ℕ, suc, true, false, nat_eq, List, [], ◌∷◌, length, Some, None, refl, ap, sym, subst, ◌∙◌, arith}
use Rattle.std.specs.Prelude.{if◌then◌else◌}
use Rattle.std.proofs.lemmas.Bool.{eq-eqb, and_from, lt-ltb, le-leb, cases_lt}
use Rattle.pgo_model.specs.Outcome.{Kind, Blocked, NoValue, AssertFails, Many}
use Rattle.pgo_model.specs.Machine.{nth}
use Rattle.pgo_model.specs.MachineLists.{nth_below}
use Rattle.pgo_model.specs.Options.{on}
use Rattle.pgo_bundle.specs.Accounts.{AttemptLine, StepLine, NoteLine, HeldLine, HeldLogLine, DownLine, FullLine, Account}
use Rattle.pgo_bundle.specs.BundleLog.{LoggedNote, LoggedEntry, BundleLog, notes_from}
use Rattle.pgo_bundle.specs.Tied.{Says, IsNoteAt, Precedes, IsTied}
use Rattle.pgo_bundle.specs.Untied.{AtEntry, AtNote, Nothing, same_kind, says_so, follows, last_with, most_with, claim_of, broken_from, broken_records, or_else, at_record, has_attempt, is_recorded, unnamed_entry, unnamed_among, unnamed_behind, untied_at}
use Rattle.pgo_bundle.proofs.Items.{Item, StepItem, NoteItem, IsIn, items, adds, claim_is, note_of, entry_item, note_item, item_is, only_item, none_of}

kind_self : (x : Kind) → same_kind x x ≡ true
kind_self Blocked = refl
kind_self NoValue = refl
kind_self AssertFails = refl
kind_self Many = refl

-- a record tells what is before it
abbrev HasNumber : AttemptLine → ℕ → Type 0
HasNumber (StepLine n) m = n ≡ m
HasNumber (NoteLine kind p) m = p ≡ m
HasNumber (HeldLine h x i) m = ⊥
HasNumber (HeldLogLine h) m = ⊥
HasNumber (DownLine o x i) m = ⊥
HasNumber (FullLine n) m = ⊥

before_step : (y : AttemptLine) (m n : ℕ) → HasNumber y m → Precedes y (StepLine n) → m < n
before_step (StepLine k) m n e p = omega (arith, e, p)
before_step (NoteLine kind k) m n e p = omega (arith, e, p)
before_step (HeldLine h x i) m n e p = absurd e
before_step (HeldLogLine h) m n e p = absurd e
before_step (DownLine o x i) m n e p = absurd e
before_step (FullLine k) m n e p = absurd e

module _ (l : BundleLog) (tied : IsTied l) where
  -- two things that one record says are one
  says_same : (k a : ℕ) (x y : AttemptLine) → Says l k a x → Says l k a y → x ≡ y
  says_same k a x y s t =
      let account : s.0 ≡ t.0 = (let f = sym s.2 ∙ t.2 in cc) in
      let place : s.1 ≡ t.1 = (let e = s.3 in let f = t.3 in omega (arith, e, f)) in
      let found = sym s.4 ∙ (λ i. nth (account i).attempts (place i)) ∙ t.4 in
      cc

  -- an item of an attempt is what its record says
  of_step : (k a i : ℕ) (x : AttemptLine) → Says l k a x → IsIn (StepItem i) (items l k a) → x ≡ StepLine i
  of_step k a i x s h =
      let at = item_is l k a (StepItem i) h in
      let number : i ≡ suc at.0 = (let e = at.2 in omega (arith, e)) in
      says_same k a x (StepLine i) s (tied.entries i k a (at.0, at.1, number, at.3, at.4, at.5))

  of_note : (k a : ℕ) (kind : Kind) (p j : ℕ) (x : AttemptLine) → Says l k a x → IsIn (NoteItem kind p j) (items l k a) → (x ≡ NoteLine kind p) × IsNoteAt l p j (note_of k a kind)
  of_note k a kind p j x s h =
      let at = item_is l k a (NoteItem kind p j) h in
      let number : at.0 ≡ p = (let e = at.1 in omega (arith, e)) in
      let there : IsNoteAt l p j (note_of k a kind) = subst (λ q. IsNoteAt l q j (note_of k a kind)) number at.2 in
      (says_same k a x (NoteLine kind p) s (tied.notes p j (note_of k a kind) there), there)

  only_step : (k a n : ℕ) → Says l k a (StepLine n) → items l k a ≡ StepItem n ∷ []
  only_step k a n s =
      let e = tied.steps n k a s in
      let here : IsIn (StepItem n) (items l k a) = subst (λ z. IsIn (StepItem z) (items l k a)) (sym e.2) (entry_item l k a e.0 e.1 e.3 e.4 e.5) in
      only_item l k a (StepItem n) all here
    where
      all : (y : Item) → IsIn y (items l k a) → y ≡ StepItem n
      all (StepItem i) h = let same = of_step k a i (StepLine n) s h in let f : n ≡ i = cc in ap StepItem (sym f)
      all (NoteItem kind p j) h = absurd (let same = (of_note k a kind p j (StepLine n) s h).0 in cc)

  only_note : (k a : ℕ) (kind : Kind) (p : ℕ) → Says l k a (NoteLine kind p) → (j : ℕ) × (items l k a ≡ NoteItem kind p j ∷ [])
  only_note k a kind p s =
      let e = tied.noted k a kind p s in
      (e.0, only_item l k a (NoteItem kind p e.0) (all e.0 e.1) (note_item l k a p e.0 (note_of k a kind) e.1 refl refl))
    where
      all : (j : ℕ) → IsNoteAt l p j (note_of k a kind) → (y : Item) → IsIn y (items l k a) → y ≡ NoteItem kind p j
      all j at (StepItem i) h = absurd (let same = of_step k a i (NoteLine kind p) s h in cc)
      all j at (NoteItem found q m) h =
          let t = of_note k a found q m (NoteLine kind p) s h in
          let same = t.0 in
          let f : found ≡ kind = cc in
          let g : q ≡ p = cc in
          let once = tied.once q m p j (note_of k a found) (note_of k a kind) t.1 at refl refl in
          λ i. NoteItem (f i) (g i) (once.1 i)

  -- of a refusal there is no item
  no_items : (k a : ℕ) (x : AttemptLine) → Says l k a x → ((i : ℕ) → x ≡ StepLine i → ⊥) → ((kind : Kind) (p : ℕ) → x ≡ NoteLine kind p → ⊥) → items l k a ≡ []
  no_items k a x s step note = none_of (items l k a) all
    where
      all : (y : Item) → IsIn y (items l k a) → ⊥
      all (StepItem i) h = step i (of_step k a i x s h)
      all (NoteItem kind p j) h = note kind p (of_note k a kind p j x s h).0

  said_so : (k a : ℕ) (x : AttemptLine) → Says l k a x → says_so (adds Nothing (items l k a)) x ≡ true
  said_so k a (StepLine n) s = ap (λ xs. says_so (adds Nothing xs) (StepLine n)) (only_step k a n s) ∙ eq-eqb n n refl
  said_so k a (NoteLine kind p) s =
      let o = only_note k a kind p s in
      ap (λ xs. says_so (adds Nothing xs) (NoteLine kind p)) o.1 ∙ and_from (same_kind kind kind) (nat_eq p p) (kind_self kind) (eq-eqb p p refl)
  said_so k a (HeldLine h x i) s = ap (λ xs. says_so (adds Nothing xs) (HeldLine h x i)) (no_items k a (HeldLine h x i) s (λ i e. absurd (cc)) (λ kind p e. absurd (cc)))
  said_so k a (HeldLogLine h) s = ap (λ xs. says_so (adds Nothing xs) (HeldLogLine h)) (no_items k a (HeldLogLine h) s (λ i e. absurd (cc)) (λ kind p e. absurd (cc)))
  said_so k a (DownLine o x i) s = ap (λ xs. says_so (adds Nothing xs) (DownLine o x i)) (no_items k a (DownLine o x i) s (λ i e. absurd (cc)) (λ kind p e. absurd (cc)))
  said_so k a (FullLine n) s = ap (λ xs. says_so (adds Nothing xs) (FullLine n)) (no_items k a (FullLine n) s (λ i e. absurd (cc)) (λ kind p e. absurd (cc)))

  claim_said : (k a : ℕ) (x : AttemptLine) → Says l k a x → says_so (claim_of l k a) x ≡ true
  claim_said k a x s = ap (λ c. says_so c x) (claim_is l k a) ∙ said_so k a x s

  -- ---- the order

  module _ (k : ℕ) where
    -- the last step before attempt a, and the most of any step or note
    abbrev IsLast : (a last : ℕ) → Type 0
    IsLast a last = (last ≡ 0) ⊎ ((b : ℕ) × (b < a) × Says l k b (StepLine last))

    abbrev IsMost : (a most : ℕ) → Type 0
    IsMost a most = (most ≡ 0) ⊎ ((b : ℕ) × (y : AttemptLine) × (b < a) × Says l k b y × HasNumber y most)

    later_last : (a last : ℕ) → IsLast a last → IsLast (suc a) last
    later_last a last (inl e) = inl e
    later_last a last (inr h) = inr (h.0, (let lt = h.1 in omega (arith, lt)), h.2)

    later_most : (a most : ℕ) → IsMost a most → IsMost (suc a) most
    later_most a most (inl e) = inl e
    later_most a most (inr h) = inr (h.0, h.1, (let lt = h.2 in omega (arith, lt)), h.3, h.4)

    follows_step : (a most n : ℕ) → IsMost a most → Says l k a (StepLine n) → most < n
    follows_step a most n (inl e) s = let f = (tied.steps n k a s).2 in omega (arith, e, f)
    follows_step a most n (inr h) s = before_step h.1 most n h.4 (tied.ordered k h.0 a h.1 (StepLine n) h.3 s h.2)

    follows_note : (a last : ℕ) (kind : Kind) (p : ℕ) → IsLast a last → Says l k a (NoteLine kind p) → last ≤ p
    follows_note a last kind p (inl e) s = omega (arith, e)
    follows_note a last kind p (inr h) s = tied.ordered k h.0 a (StepLine last) (NoteLine kind p) h.2 s h.1

    in_order : (a last most : ℕ) (x : AttemptLine) → IsLast a last → IsMost a most → Says l k a x → follows last most x ≡ true
    in_order a last most (StepLine n) h g s = lt-ltb most n (follows_step a most n g s)
    in_order a last most (NoteLine kind p) h g s = le-leb last p (follows_note a last kind p h s)
    in_order a last most (HeldLine o x i) h g s = refl
    in_order a last most (HeldLogLine o) h g s = refl
    in_order a last most (DownLine o x i) h g s = refl
    in_order a last most (FullLine n) h g s = refl

    last_more : (a last : ℕ) (x : AttemptLine) → IsLast a last → Says l k a x → IsLast (suc a) (last_with last x)
    last_more a last (StepLine n) h s = inr (a, (omega arith), s)
    last_more a last (NoteLine kind p) h s = later_last a last h
    last_more a last (HeldLine o x i) h s = later_last a last h
    last_more a last (HeldLogLine o) h s = later_last a last h
    last_more a last (DownLine o x i) h s = later_last a last h
    last_more a last (FullLine n) h s = later_last a last h

    most_note : (a most : ℕ) (kind : Kind) (p : ℕ) → IsMost a most → Says l k a (NoteLine kind p) → (most < p) ⊎ (p ≤ most) → IsMost (suc a) (max most p)
    most_note a most kind p h s (inl lt) = inr (a, NoteLine kind p, (omega arith), s, (omega (arith, lt)))
    most_note a most kind p h s (inr le) = subst (IsMost (suc a)) (let e : most ≡ max most p = omega (arith, le) in e) (later_most a most h)

    most_more : (a most : ℕ) (x : AttemptLine) → IsMost a most → Says l k a x → IsMost (suc a) (most_with most x)
    most_more a most (StepLine n) h s = inr (a, StepLine n, (omega arith), s, refl)
    most_more a most (NoteLine kind p) h s = most_note a most kind p h s (cases_lt most p)
    most_more a most (HeldLine o x i) h s = later_most a most h
    most_more a most (HeldLogLine o) h s = later_most a most h
    most_more a most (DownLine o x i) h s = later_most a most h
    most_more a most (FullLine n) h s = later_most a most h

    none_from : (a last most : ℕ) (xs : List AttemptLine) → ((i : ℕ) (x : AttemptLine) → nth xs i ≡ Some x → Says l k (a + i) x) → IsLast a last → IsMost a most → broken_from l k a last most xs ≡ None
    none_from a last most [] all h g = refl
    none_from a last most (x ∷ xs) all h g =
        let here : Says l k a x = subst (λ b. Says l k b x) (let e : a + 0 ≡ a = omega arith in e) (all 0 x refl) in
        let test = and_from (says_so (claim_of l k a) x) (follows last most x) (claim_said k a x here) (in_order a last most x h g here) in
        let rest = none_from (suc a) (last_with last x) (most_with most x) xs (λ i y e. subst (λ b. Says l k b y) (let f : a + suc i ≡ suc a + i = omega arith in f) (all (suc i) y e)) (last_more a last x h here) (most_more a most x g here) in
        ap (λ b. if b then broken_from l k (suc a) (last_with last x) (most_with most x) xs else Some a) test ∙ rest

  none_broken : (k : ℕ) (cs : List Account) → ((i : ℕ) (c : Account) → nth cs i ≡ Some c → nth l.accounts (k + i) ≡ Some c) → broken_records l k cs ≡ None
  none_broken k [] all = refl
  none_broken k (c ∷ cs) all =
      let here : nth l.accounts k ≡ Some c = subst (λ j. nth l.accounts j ≡ Some c) (let e : k + 0 ≡ k = omega arith in e) (all 0 c refl) in
      let first = none_from k 1 0 0 c.attempts (λ i x e. (c, i, here, (omega arith), e)) (inl refl) (inl refl) in
      let rest = none_broken (suc k) cs (λ i d e. subst (λ j. nth l.accounts j ≡ Some d) (let f : k + suc i ≡ suc k + i = omega arith in f) (all (suc i) d e)) in
      λ j. or_else (at_record k (first j)) (rest j)

  -- ---- entries and notes have records

  recorded : (k a : ℕ) (x : AttemptLine) → Says l k a x → is_recorded l.accounts k a ≡ true
  recorded k a x s =
      let below = nth_below s.0.attempts s.1 x s.4 in
      ap (λ o. on false o (λ c. has_attempt c.attempts a)) s.2 ∙ ap (has_attempt s.0.attempts) s.3 ∙ lt-ltb s.1 (length s.0.attempts) below

  named_entries : (i : ℕ) (es : List LoggedEntry) → ((j : ℕ) (e : LoggedEntry) → nth es j ≡ Some e → is_recorded l.accounts e.entry.instance e.entry.attempt ≡ true) → unnamed_entry l.accounts i es ≡ None
  named_entries i [] all = refl
  named_entries i (e ∷ es) all = ap (λ b. if b then unnamed_entry l.accounts (suc i) es else Some (AtEntry i)) (all 0 e refl) ∙ named_entries (suc i) es (λ j. all (suc j))

  named_among : (p j : ℕ) (ns : List LoggedNote) → ((i : ℕ) (n : LoggedNote) → nth ns i ≡ Some n → is_recorded l.accounts n.instance n.attempt ≡ true) → unnamed_among l.accounts p j ns ≡ None
  named_among p j [] all = refl
  named_among p j (n ∷ ns) all = ap (λ b. if b then unnamed_among l.accounts p (suc j) ns else Some (AtNote p j)) (all 0 n refl) ∙ named_among p (suc j) ns (λ i. all (suc i))

  -- notes with q entries before them, and those behind the entries that follow
  named_notes : (q : ℕ) (ns : List LoggedNote) (es : List LoggedEntry) → ((p j : ℕ) (n : LoggedNote) → nth (notes_from ns es p) j ≡ Some n → is_recorded l.accounts n.instance n.attempt ≡ true)
      → (unnamed_among l.accounts q 0 ns ≡ None) × (unnamed_behind l.accounts (suc q) es ≡ None)
  named_notes q ns [] all = (named_among q 0 ns (all 0), refl)
  named_notes q ns (e ∷ es) all =
      let rest = named_notes (suc q) e.notes es (λ p. all (suc p)) in
      (named_among q 0 ns (all 0), (λ j. or_else (rest.0 j) (rest.1 j)))

  pub is_untied_nowhere : untied_at l ≡ None
  is_untied_nowhere =
      let records = none_broken 0 l.accounts (λ i c e. subst (λ j. nth l.accounts j ≡ Some c) (let f : i ≡ 0 + i = omega arith in f) e) in
      let entries = named_entries 1 l.entries (λ j e h. recorded e.entry.instance e.entry.attempt (StepLine (suc j)) (tied.entries (suc j) e.entry.instance e.entry.attempt (j, e, refl, h, refl, refl))) in
      let notes = named_notes 0 l.notes l.entries (λ p j n h. recorded n.instance n.attempt (NoteLine n.kind p) (tied.notes p j n h)) in
      λ j. or_else (records j) (or_else (entries j) (or_else (notes.0 j) (notes.1 j)))
