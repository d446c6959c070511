-- Where nothing is untied, the log is tied.
use Rattle.std.proofs.Common.{◌≡◌, ◌≤◌, ◌<◌, ◌+◌, inl, inr, ℕ, zero, suc, Bool, true, false, ◌&&◌, nat_eq, List, [], ◌∷◌, length, Option, Some, None, refl, ap, sym, subst, ◌∙◌, arith}
use Rattle.std.specs.Prelude.{if◌then◌else◌}
use Rattle.std.proofs.lemmas.Bool.{eqb-true, and_parts, ltb-true, leb-true}
use Rattle.pgo_model.specs.Outcome.{Kind, Blocked, NoValue, AssertFails, Many}
use Rattle.pgo_model.specs.Machine.{nth}
use Rattle.pgo_model.specs.Options.{on}
use Rattle.pgo_bundle.specs.Accounts.{AttemptLine, StepLine, NoteLine, HeldLine, HeldLogLine, DownLine, FullLine, Account}
use Rattle.pgo_bundle.specs.BundleLog.{LoggedNote, LoggedEntry, BundleLog, notes_from}
use Rattle.pgo_bundle.specs.Tied.{Says, IsEntryOf, IsNoteAt, Precedes, IsTied}
use Rattle.pgo_bundle.specs.Untied.{Untied, AtEntry, AtNote, Claim, Nothing, OneStep, OneNote, Several, same_kind, says_so, follows, last_with, most_with, claim_of, broken_from, broken_records, or_else, at_record, has_attempt, is_recorded, unnamed_entry, unnamed_among, unnamed_behind, unnamed_note, untied_at}
use Rattle.pgo_bundle.proofs.Items.{Item, StepItem, NoteItem, IsIn, items, adds, claim_is, two_several, one_step, one_note, note_of, entry_item, note_item, item_is}

-- ---- nothing is found

both_none : (u v : Option Untied) → or_else u v ≡ None → (u ≡ None) × (v ≡ None)
both_none None v e = (refl, e)
both_none (Some x) v e = absurd (cc)

no_record : (k : ℕ) (o : Option ℕ) → at_record k o ≡ None → o ≡ None
no_record k None e = refl
no_record k (Some a) e = absurd (cc)

-- what was passed was passed by its test
passed : (b : Bool) (o : Option ℕ) (a : ℕ) → (if b then o else Some a) ≡ None → (b ≡ true) × (o ≡ None)
passed true o a e = (refl, e)
passed false o a e = absurd (cc)

passed_by : (b : Bool) (o : Option Untied) (u : Untied) → (if b then o else Some u) ≡ None → (b ≡ true) × (o ≡ None)
passed_by true o u e = (refl, e)
passed_by false o u e = absurd (cc)

-- ---- records

same_kinds : (x y : Kind) → same_kind x y ≡ true → x ≡ y
same_kinds Blocked Blocked e = refl
same_kinds Blocked NoValue e = absurd (cc)
same_kinds Blocked AssertFails e = absurd (cc)
same_kinds Blocked Many e = absurd (cc)
same_kinds NoValue Blocked e = absurd (cc)
same_kinds NoValue NoValue e = refl
same_kinds NoValue AssertFails e = absurd (cc)
same_kinds NoValue Many e = absurd (cc)
same_kinds AssertFails Blocked e = absurd (cc)
same_kinds AssertFails NoValue e = absurd (cc)
same_kinds AssertFails AssertFails e = refl
same_kinds AssertFails Many e = absurd (cc)
same_kinds Many Blocked e = absurd (cc)
same_kinds Many NoValue e = absurd (cc)
same_kinds Many AssertFails e = absurd (cc)
same_kinds Many Many e = refl

-- the line that a claim asks for
step_said : (c : Claim) (n : ℕ) → says_so c (StepLine n) ≡ true → c ≡ OneStep n
step_said Nothing n e = absurd (cc)
step_said (OneStep m) n e = ap OneStep (eqb-true m n e)
step_said (OneNote kind p) n e = absurd (cc)
step_said Several n e = absurd (cc)

note_said : (c : Claim) (kind : Kind) (p : ℕ) → says_so c (NoteLine kind p) ≡ true → c ≡ OneNote kind p
note_said Nothing kind p e = absurd (cc)
note_said (OneStep m) kind p e = absurd (cc)
note_said (OneNote found q) kind p e =
    let t = and_parts (same_kind found kind) (nat_eq q p) e in
    let f = same_kinds found kind t.0 in
    let g = eqb-true q p t.1 in
    λ i. OneNote (f i) (g i)
note_said Several kind p e = absurd (cc)

said_step : (n : ℕ) (x : AttemptLine) → says_so (OneStep n) x ≡ true → x ≡ StepLine n
said_step n (StepLine m) e = ap StepLine (sym (eqb-true n m e))
said_step n (NoteLine kind p) e = absurd (cc)
said_step n (HeldLine h x i) e = absurd (cc)
said_step n (HeldLogLine h) e = absurd (cc)
said_step n (DownLine o x i) e = absurd (cc)
said_step n (FullLine m) e = absurd (cc)

said_note : (kind : Kind) (p : ℕ) (x : AttemptLine) → says_so (OneNote kind p) x ≡ true → x ≡ NoteLine kind p
said_note kind p (StepLine m) e = absurd (cc)
said_note kind p (NoteLine found q) e =
    let t = and_parts (same_kind kind found) (nat_eq p q) e in
    let f = sym (same_kinds kind found t.0) in
    let g = sym (eqb-true p q t.1) in
    λ i. NoteLine (f i) (g i)
said_note kind p (HeldLine h x i) e = absurd (cc)
said_note kind p (HeldLogLine h) e = absurd (cc)
said_note kind p (DownLine o x i) e = absurd (cc)
said_note kind p (FullLine m) e = absurd (cc)

several_none : (x : AttemptLine) → says_so Several x ≡ false
several_none (StepLine m) = refl
several_none (NoteLine found q) = refl
several_none (HeldLine h x i) = refl
several_none (HeldLogLine h) = refl
several_none (DownLine o x i) = refl
several_none (FullLine m) = refl

-- a record against the last step before it, and the most of any step or note before it
abbrev Above : (last most : ℕ) → AttemptLine → Type 0
Above last most (StepLine n) = most < n
Above last most (NoteLine kind p) = last ≤ p
Above last most (HeldLine h x i) = Unit {0}
Above last most (HeldLogLine h) = Unit {0}
Above last most (DownLine o x i) = Unit {0}
Above last most (FullLine n) = Unit {0}

above : (last most : ℕ) (x : AttemptLine) → follows last most x ≡ true → Above last most x
above last most (StepLine n) e = ltb-true most n e
above last most (NoteLine kind p) e = leb-true last p e
above last most (HeldLine h x i) e = tt
above last most (HeldLogLine h) e = tt
above last most (DownLine o x i) e = tt
above last most (FullLine n) e = tt

-- less is asked of both
lower : (last most u v : ℕ) (x : AttemptLine) → last ≤ u → most ≤ v → Above u v x → Above last most x
lower last most u v (StepLine n) h g a = omega (arith, g, a)
lower last most u v (NoteLine kind p) h g a = omega (arith, h, a)
lower last most u v (HeldLine k x i) h g a = tt
lower last most u v (HeldLogLine k) h g a = tt
lower last most u v (DownLine o x i) h g a = tt
lower last most u v (FullLine n) h g a = tt

grows : (last most : ℕ) (x : AttemptLine) → last ≤ most → Above last most x → (last ≤ last_with last x) × (most ≤ most_with most x) × (last_with last x ≤ most_with most x)
grows last most (StepLine n) h a = ((omega (arith, h, a)), (omega (arith, a)), (omega arith))
grows last most (NoteLine kind p) h a = ((omega arith), (omega arith), (omega (arith, h)))
grows last most (HeldLine k x i) h a = ((omega arith), (omega arith), h)
grows last most (HeldLogLine k) h a = ((omega arith), (omega arith), h)
grows last most (DownLine o x i) h a = ((omega arith), (omega arith), h)
grows last most (FullLine n) h a = ((omega arith), (omega arith), h)

-- what comes behind a record comes behind it in order
precedes : (last most : ℕ) (x y : AttemptLine) → Above (last_with last x) (most_with most x) y → Precedes x y
precedes last most (StepLine n) (StepLine q) a = a
precedes last most (StepLine n) (NoteLine kind q) a = a
precedes last most (StepLine n) (HeldLine h x i) a = tt
precedes last most (StepLine n) (HeldLogLine h) a = tt
precedes last most (StepLine n) (DownLine o x i) a = tt
precedes last most (StepLine n) (FullLine q) a = tt
precedes last most (NoteLine kind p) (StepLine q) a = omega (arith, a)
precedes last most (NoteLine kind p) (NoteLine found q) a = tt
precedes last most (NoteLine kind p) (HeldLine h x i) a = tt
precedes last most (NoteLine kind p) (HeldLogLine h) a = tt
precedes last most (NoteLine kind p) (DownLine o x i) a = tt
precedes last most (NoteLine kind p) (FullLine q) a = tt
precedes last most (HeldLine h x i) y a = tt
precedes last most (HeldLogLine h) y a = tt
precedes last most (DownLine o x i) y a = tt
precedes last most (FullLine n) y a = tt

module _ (l : BundleLog) (k : ℕ) where
  passed_here : (a last most : ℕ) (y : AttemptLine) (xs : List AttemptLine) → broken_from l k a last most (y ∷ xs) ≡ None
      → ((says_so (claim_of l k a) y && follows last most y) ≡ true) × (broken_from l k (suc a) (last_with last y) (most_with most y) xs ≡ None)
  passed_here a last most y xs e = passed (says_so (claim_of l k a) y && follows last most y) (broken_from l k (suc a) (last_with last y) (most_with most y) xs) a e

  -- each record says what is claimed
  all_say : (a last most : ℕ) (xs : List AttemptLine) (i : ℕ) (x : AttemptLine) → broken_from l k a last most xs ≡ None → nth xs i ≡ Some x → says_so (claim_of l k (a + i)) x ≡ true
  all_say a last most [] i x e h = absurd (cc)
  all_say a last most (y ∷ xs) zero x e h =
      let t = and_parts (says_so (claim_of l k a) y) (follows last most y) (passed_here a last most y xs e).0 in
      let same : y ≡ x = cc in
      let here : a ≡ a + 0 = omega arith in
      (λ j. says_so (claim_of l k (sym here j)) (sym same j)) ∙ t.0
  all_say a last most (y ∷ xs) (suc i) x e h =
      let there : suc a + i ≡ a + suc i = omega arith in
      ap (λ n. says_so (claim_of l k n) x) (sym there) ∙ all_say (suc a) (last_with last y) (most_with most y) xs i x (passed_here a last most y xs e).1 h

  -- and stands in order
  all_above : (a last most : ℕ) (xs : List AttemptLine) (i : ℕ) (x : AttemptLine) → last ≤ most → broken_from l k a last most xs ≡ None → nth xs i ≡ Some x → Above last most x
  all_above a last most [] i x low e h = absurd (cc)
  all_above a last most (y ∷ xs) zero x low e h =
      let t = and_parts (says_so (claim_of l k a) y) (follows last most y) (passed_here a last most y xs e).0 in
      let same : y ≡ x = cc in
      subst (Above last most) same (above last most y t.1)
  all_above a last most (y ∷ xs) (suc i) x low e h =
      let t = and_parts (says_so (claim_of l k a) y) (follows last most y) (passed_here a last most y xs e).0 in
      let g = grows last most y low (above last most y t.1) in
      lower last most (last_with last y) (most_with most y) x g.0 g.1 (all_above (suc a) (last_with last y) (most_with most y) xs i x g.2 (passed_here a last most y xs e).1 h)

  in_order : (a last most : ℕ) (xs : List AttemptLine) (i j : ℕ) (x y : AttemptLine) → last ≤ most → broken_from l k a last most xs ≡ None → nth xs i ≡ Some x → nth xs j ≡ Some y → i < j → Precedes x y
  in_order a last most [] i j x y low e h g lt = absurd (cc)
  in_order a last most (z ∷ xs) i zero x y low e h g lt = absurd (omega (arith, lt))
  in_order a last most (z ∷ xs) zero (suc j) x y low e h g lt =
      let t = and_parts (says_so (claim_of l k a) z) (follows last most z) (passed_here a last most z xs e).0 in
      let grown = grows last most z low (above last most z t.1) in
      let same : z ≡ x = cc in
      subst (λ w. Precedes w y) same (precedes last most z y (all_above (suc a) (last_with last z) (most_with most z) xs j y grown.2 (passed_here a last most z xs e).1 g))
  in_order a last most (z ∷ xs) (suc i) (suc j) x y low e h g lt =
      let t = and_parts (says_so (claim_of l k a) z) (follows last most z) (passed_here a last most z xs e).0 in
      let grown = grows last most z low (above last most z t.1) in
      in_order (suc a) (last_with last z) (most_with most z) xs i j x y grown.2 (passed_here a last most z xs e).1 h g (omega (arith, lt))

none_broken : (l : BundleLog) (k : ℕ) (cs : List Account) (i : ℕ) (c : Account) → broken_records l k cs ≡ None → nth cs i ≡ Some c → broken_from l (k + i) 1 0 0 c.attempts ≡ None
none_broken l k [] i c e h = absurd (cc)
none_broken l k (d ∷ cs) zero c e h =
    let t = both_none (at_record k (broken_from l k 1 0 0 d.attempts)) (broken_records l (suc k) cs) e in
    let same : d ≡ c = cc in
    let here : k ≡ k + 0 = omega arith in
    (λ j. broken_from l (sym here j) 1 0 0 (sym same j).attempts) ∙ no_record k (broken_from l k 1 0 0 d.attempts) t.0
none_broken l k (d ∷ cs) (suc i) c e h =
    let t = both_none (at_record k (broken_from l k 1 0 0 d.attempts)) (broken_records l (suc k) cs) e in
    let there : suc k + i ≡ k + suc i = omega arith in
    ap (λ n. broken_from l n 1 0 0 c.attempts) (sym there) ∙ none_broken l (suc k) cs i c t.1 h

-- ---- entries and notes have records

nth_there : {A : Type 0} (xs : List A) (i : ℕ) → i < length xs → (x : A) × (nth xs i ≡ Some x)
nth_there [] i h = absurd (omega (arith, h))
nth_there (x ∷ xs) zero h = (x, refl)
nth_there (x ∷ xs) (suc i) h = nth_there xs i (omega (arith, h))

-- a record of this attempt
record HasRecord (cs : List Account) (k a : ℕ) : Type 0 where
  account : Account
  place : ℕ
  said : AttemptLine
  found : nth cs k ≡ Some account
  number : a ≡ suc place
  at : nth account.attempts place ≡ Some said

attempt_there : (c : Account) (a : ℕ) → has_attempt c.attempts a ≡ true → (i : ℕ) × (x : AttemptLine) × (a ≡ suc i) × (nth c.attempts i ≡ Some x)
attempt_there c zero e = absurd (cc)
attempt_there c (suc i) e = let n = nth_there c.attempts i (ltb-true i (length c.attempts) e) in (i, n.0, refl, n.1)

recorded : (cs : List Account) (k a : ℕ) → is_recorded cs k a ≡ true → HasRecord cs k a
recorded cs k a e = go (nth cs k) refl e
  where
    go : (o : Option Account) → nth cs k ≡ o → on false o (λ c. has_attempt c.attempts a) ≡ true → HasRecord cs k a
    go None f e = absurd (cc)
    go (Some c) f e = let t = attempt_there c a e in record { account = c; place = t.0; said = t.1; found = f; number = t.2; at = t.3 }

entry_named : (cs : List Account) (i : ℕ) (es : List LoggedEntry) (j : ℕ) (e : LoggedEntry) → unnamed_entry cs i es ≡ None → nth es j ≡ Some e → is_recorded cs e.entry.instance e.entry.attempt ≡ true
entry_named cs i [] j e h g = absurd (cc)
entry_named cs i (d ∷ es) zero e h g =
    let same : d ≡ e = cc in
    ap (λ (z : LoggedEntry). is_recorded cs z.entry.instance z.entry.attempt) (sym same) ∙ (passed_by (is_recorded cs d.entry.instance d.entry.attempt) (unnamed_entry cs (suc i) es) (AtEntry i) h).0
entry_named cs i (d ∷ es) (suc j) e h g = entry_named cs (suc i) es j e (passed_by (is_recorded cs d.entry.instance d.entry.attempt) (unnamed_entry cs (suc i) es) (AtEntry i) h).1 g

among_named : (cs : List Account) (p j : ℕ) (ns : List LoggedNote) (i : ℕ) (n : LoggedNote) → unnamed_among cs p j ns ≡ None → nth ns i ≡ Some n → is_recorded cs n.instance n.attempt ≡ true
among_named cs p j [] i n h g = absurd (cc)
among_named cs p j (m ∷ ns) zero n h g =
    let same : m ≡ n = cc in
    ap (λ (z : LoggedNote). is_recorded cs z.instance z.attempt) (sym same) ∙ (passed_by (is_recorded cs m.instance m.attempt) (unnamed_among cs p (suc j) ns) (AtNote p j) h).0
among_named cs p j (m ∷ ns) (suc i) n h g = among_named cs p (suc j) ns i n (passed_by (is_recorded cs m.instance m.attempt) (unnamed_among cs p (suc j) ns) (AtNote p j) h).1 g

note_named : (cs : List Account) (q p : ℕ) (ns : List LoggedNote) (es : List LoggedEntry) (j : ℕ) (n : LoggedNote) → unnamed_among cs q 0 ns ≡ None → unnamed_behind cs (suc q) es ≡ None
    → nth (notes_from ns es p) j ≡ Some n → is_recorded cs n.instance n.attempt ≡ true
note_named cs q zero ns es j n h b g = among_named cs q 0 ns j n h (first es g)
  where
    first : (es : List LoggedEntry) → nth (notes_from ns es 0) j ≡ Some n → nth ns j ≡ Some n
    first es g = g
note_named cs q (suc p) ns [] j n h b g = absurd (cc)
note_named cs q (suc p) ns (e ∷ es) j n h b g =
    let t = both_none (unnamed_among cs (suc q) 0 e.notes) (unnamed_behind cs (suc (suc q)) es) b in
    note_named cs (suc q) p e.notes es j n t.0 t.1 g

-- ---- the whole

-- the one item of a list
only_in : (x y : Item) (xs : List Item) → xs ≡ y ∷ [] → IsIn x xs → x ≡ y
only_in x y xs e h = go (subst (IsIn x) e h)
  where
    go : IsIn x (y ∷ []) → x ≡ y
    go (inl e) = e
    go (inr h) = absurd h

several_said : (y z : Item) (xs : List Item) (s : AttemptLine) → says_so (adds Nothing (y ∷ (z ∷ xs))) s ≡ false
several_said y z xs s = ap (λ c. says_so c s) (two_several y z xs) ∙ several_none s

-- of what a record says there is one item
one_alone : (xs : List Item) (x : Item) (s : AttemptLine) → says_so (adds Nothing xs) s ≡ true → IsIn x xs → xs ≡ x ∷ []
one_alone [] x s e h = absurd h
one_alone (y ∷ []) x s e h = let same = only_in x y (y ∷ []) refl h in ap (λ z. z ∷ []) (sym same)
one_alone (y ∷ (z ∷ xs)) x s e h = absurd (let f = sym (several_said y z xs s) ∙ e in cc)

notes_few : (ns : List LoggedNote) (es : List LoggedEntry) (p j : ℕ) (n : LoggedNote) → nth (notes_from ns es p) j ≡ Some n → p ≤ length es
notes_few ns es zero j n h = omega arith
notes_few ns [] (suc p) j n h = absurd (cc)
notes_few ns (e ∷ es) (suc p) j n h = let m = notes_few e.notes es p j n h in omega (arith, m)

module _ (l : BundleLog) (untied : untied_at l ≡ None) where
  parts : (broken_records l 0 l.accounts ≡ None) × (unnamed_entry l.accounts 1 l.entries ≡ None) × (unnamed_among l.accounts 0 0 l.notes ≡ None) × (unnamed_behind l.accounts 1 l.entries ≡ None)
  parts =
      let a = both_none (broken_records l 0 l.accounts) (or_else (unnamed_entry l.accounts 1 l.entries) (unnamed_note l.accounts l.notes l.entries)) untied in
      let b = both_none (unnamed_entry l.accounts 1 l.entries) (unnamed_note l.accounts l.notes l.entries) a.1 in
      let c = both_none (unnamed_among l.accounts 0 0 l.notes) (unnamed_behind l.accounts 1 l.entries) b.1 in
      (a.0, b.0, c.0, c.1)

  unbroken : (k : ℕ) (c : Account) → nth l.accounts k ≡ Some c → broken_from l k 1 0 0 c.attempts ≡ None
  unbroken k c h =
      let same : 0 + k ≡ k = omega arith in
      ap (λ n. broken_from l n 1 0 0 c.attempts) (sym same) ∙ none_broken l 0 l.accounts k c parts.0 h

  -- a record says what is claimed of its attempt
  said_so : (k a : ℕ) (x : AttemptLine) → Says l k a x → says_so (adds Nothing (items l k a)) x ≡ true
  said_so k a x s =
      let h = all_say l k 1 0 0 s.0.attempts s.1 x (unbroken k s.0 s.2) s.4 in
      let same : 1 + s.1 ≡ a = let e = s.3 in omega (arith, e) in
      ap (λ c. says_so c x) (sym (claim_is l k a)) ∙ ap (λ n. says_so (claim_of l k n) x) (sym same) ∙ h

  says : (k a : ℕ) (r : HasRecord l.accounts k a) → Says l k a r.said
  says k a r = (r.account, r.place, r.found, r.number, r.at)

  -- an item of an attempt that has a record is its only one
  by_item : (k a : ℕ) (x : Item) (r : HasRecord l.accounts k a) → IsIn x (items l k a) → items l k a ≡ x ∷ []
  by_item k a x r h = one_alone (items l k a) x r.said (said_so k a r.said (says k a r)) h

  pub is_tied : IsTied l
  is_tied = record {
    entries = λ i k a h. entry_says i k a h;
    steps = λ i k a s. step_there i k a s;
    notes = λ p j n h. note_says p j n h;
    noted = λ k a kind p s. note_there k a kind p s;
    once = λ p j q i n m h g e f. one_note_alone p j q i n m h g e f;
    positions = λ k a kind p s. (let n = note_there k a kind p s in notes_few l.notes l.entries p n.0 (note_of k a kind) n.1);
    ordered = λ k a b x y s t lt. order k a b x y s t lt;
  }
    where
      entry_says : (i k a : ℕ) → IsEntryOf l i k a → Says l k a (StepLine i)
      entry_says i k a h =
          let named = entry_named l.accounts 1 l.entries h.0 h.1 parts.1 h.3 in
          let r = recorded l.accounts k a ((λ j. is_recorded l.accounts (sym h.4 j) (sym h.5 j)) ∙ named) in
          let x = by_item k a (StepItem (suc h.0)) r (entry_item l k a h.0 h.1 h.3 h.4 h.5) in
          let said = said_step (suc h.0) r.said (ap (λ xs. says_so (adds Nothing xs) r.said) (sym x) ∙ said_so k a r.said (says k a r)) in
          subst (Says l k a) (said ∙ ap StepLine (sym h.2)) (says k a r)

      step_there : (i k a : ℕ) → Says l k a (StepLine i) → IsEntryOf l i k a
      step_there i k a s =
          let one = one_step i (items l k a) (step_said (adds Nothing (items l k a)) i (said_so k a (StepLine i) s)) in
          let at = item_is l k a (StepItem i) (subst (IsIn (StepItem i)) (sym one) (inl refl)) in
          (at.0, at.1, (let e = at.2 in omega (arith, e)), at.3, at.4, at.5)

      note_says : (p j : ℕ) (n : LoggedNote) → IsNoteAt l p j n → Says l n.instance n.attempt (NoteLine n.kind p)
      note_says p j n h =
          let named = note_named l.accounts 0 p l.notes l.entries j n parts.2 parts.3 h in
          let r = recorded l.accounts n.instance n.attempt named in
          let x = by_item n.instance n.attempt (NoteItem n.kind p j) r (note_item l n.instance n.attempt p j n h refl refl) in
          let said = said_note n.kind p r.said (ap (λ xs. says_so (adds Nothing xs) r.said) (sym x) ∙ said_so n.instance n.attempt r.said (says n.instance n.attempt r)) in
          subst (Says l n.instance n.attempt) said (says n.instance n.attempt r)

      note_there : (k a : ℕ) (kind : Kind) (p : ℕ) → Says l k a (NoteLine kind p) → (j : ℕ) × IsNoteAt l p j (record { instance = k; attempt = a; kind = kind })
      note_there k a kind p s =
          let one = one_note kind p (items l k a) (note_said (adds Nothing (items l k a)) kind p (said_so k a (NoteLine kind p) s)) in
          let at = item_is l k a (NoteItem kind p one.0) (subst (IsIn (NoteItem kind p one.0)) (sym one.1) (inl refl)) in
          let same : at.0 ≡ p = let e = at.1 in omega (arith, e) in
          (one.0, subst (λ q. IsNoteAt l q one.0 (note_of k a kind)) same at.2)

      one_note_alone : (p j q i : ℕ) (n m : LoggedNote) → IsNoteAt l p j n → IsNoteAt l q i m → n.instance ≡ m.instance → n.attempt ≡ m.attempt → (p ≡ q) × (j ≡ i)
      one_note_alone p j q i n m h g e f =
          let named = note_named l.accounts 0 p l.notes l.entries j n parts.2 parts.3 h in
          let r = recorded l.accounts n.instance n.attempt named in
          let x = by_item n.instance n.attempt (NoteItem n.kind p j) r (note_item l n.instance n.attempt p j n h refl refl) in
          let y = only_in (NoteItem m.kind q i) (NoteItem n.kind p j) (items l n.instance n.attempt) x (note_item l n.instance n.attempt q i m g (sym e) (sym f)) in
          (cc, cc)

      order : (k a b : ℕ) (x y : AttemptLine) → Says l k a x → Says l k b y → a < b → Precedes x y
      order k a b x y s t lt =
          let same : s.0 ≡ t.0 = (let f = sym s.2 ∙ t.2 in cc) in
          let e = s.3 in
          let f = t.3 in
          let at : nth s.0.attempts t.1 ≡ Some y = ap (λ (c : Account). nth c.attempts t.1) same ∙ t.4 in
          in_order l k 1 0 0 s.0.attempts s.1 t.1 x y (omega arith) (unbroken k s.0 s.2) s.4 at (omega (arith, e, f, lt))
