-- The place where a log isn't tied has a line in the log's text.
use Rattle.std.proofs.Common.{◌≡◌, ◌<◌, ◌+◌, ◌⊎◌, inl, inr, ℕ, zero, suc, Bool, true, false, ◌&&◌, List, [], ◌∷◌, ◌++◌, length, length-append, map, take, codes, decimal, Option, Some, None, refl, ap, sym, subst, ◌∙◌, arith}
use Rattle.std.specs.Prelude.{if◌then◌else◌, nat_eq}
use Rattle.std.proofs.lemmas.Bool.{lt-ltb}
use Rattle.std.proofs.lemmas.List.{length-map}
use Rattle.pgo_model.specs.Bundle.{value_line, change_line, entries_lines}
use Rattle.pgo_model.specs.Machine.{Note, nth}
use Rattle.pgo_model.specs.ModuleText.{Line, line}
use Rattle.pgo_model.specs.Options.{on}
use Rattle.pgo_bundle.specs.Accounts.{AttemptLine, StepLine, NoteLine, HeldLine, HeldLogLine, DownLine, FullLine, Account, attempt_lines, read_accounts_lines}
use Rattle.pgo_bundle.specs.BundleLog.{Version, One, Two, LoggedNote, LoggedEntry, BundleLog, notes_from}
use Rattle.pgo_bundle.specs.Lines.{note_line, prints_lines, all_logged_lines, logged_lines, steps_lines, log_lines}
use Rattle.pgo_bundle.specs.Migrated.{note_told, notes_told, all_told, migrated_from, migrated}
use Rattle.pgo_bundle.specs.Places.{own_size, notes_size, entries_size, accounts_size, front_size, own_size_at, lines_before}
use Rattle.pgo_bundle.specs.RunLog.{notes_at}
use Rattle.pgo_bundle.specs.Untied.{Untied, AtRecord, AtEntry, AtNote, claim_of, says_so, follows, last_with, most_with, broken_from, broken_records, or_else, at_record, has_attempt, is_recorded, unnamed_entry, unnamed_among, unnamed_behind, unnamed_note, untied_at}

-- ---- what is found is there

found_in : (u v : Option Untied) (x : Untied) → or_else u v ≡ Some x → (u ≡ Some x) ⊎ (v ≡ Some x)
found_in None v x e = inr e
found_in (Some y) v x e = inl e

found_by : {A : Type 0} (t : Bool) (o : Option A) (x y : A) → (if t then o else Some x) ≡ Some y → (o ≡ Some y) ⊎ (x ≡ y)
found_by true o x y e = inl e
found_by false o x y e = inr (cc)

record_is : (k : ℕ) (o : Option ℕ) (u : Untied) → at_record k o ≡ Some u → (a : ℕ) × (o ≡ Some a) × (AtRecord k a ≡ u)
record_is k None u e = absurd (cc)
record_is k (Some a) u e = (a, refl, cc)

broken_there : (l : BundleLog) (k a last most : ℕ) (xs : List AttemptLine) (b : ℕ) → broken_from l k a last most xs ≡ Some b → (i : ℕ) × (b ≡ a + i) × (i < length xs)
broken_there l k a last most [] b e = absurd (cc)
broken_there l k a last most (x ∷ xs) b e =
    go (found_by (says_so (claim_of l k a) x && follows last most x) (broken_from l k (suc a) (last_with last x) (most_with most x) xs) a b e)
    (λ h. broken_there l k (suc a) (last_with last x) (most_with most x) xs b h)
  where
    go : (broken_from l k (suc a) (last_with last x) (most_with most x) xs ≡ Some b) ⊎ (a ≡ b)
        → (broken_from l k (suc a) (last_with last x) (most_with most x) xs ≡ Some b → (i : ℕ) × (b ≡ suc a + i) × (i < length xs))
        → (i : ℕ) × (b ≡ a + i) × (i < length (x ∷ xs))
    go (inl h) more = let r = more h in let e = r.1 in let f = r.2 in (suc r.0, omega (arith, e), omega (arith, f))
    go (inr h) more = (0, omega (arith, h), omega arith)

-- a record of these accounts, of which the first is that of instance k
abbrev RecordIn : List Account → (k : ℕ) → Untied → Type 0
RecordIn cs k u = (j : ℕ) × (c : Account) × (i : ℕ) × (AtRecord (k + j) (suc i) ≡ u) × (nth cs j ≡ Some c) × (i < length c.attempts)

record_there : (l : BundleLog) (k : ℕ) (cs : List Account) (u : Untied) → broken_records l k cs ≡ Some u → RecordIn cs k u
record_there l k [] u e = absurd (cc)
record_there l k (c ∷ cs) u e =
    go (found_in (at_record k (broken_from l k 1 0 0 c.attempts)) (broken_records l (suc k) cs) u e) (λ h. record_there l (suc k) cs u h)
  where
    go : (at_record k (broken_from l k 1 0 0 c.attempts) ≡ Some u) ⊎ (broken_records l (suc k) cs ≡ Some u) → (broken_records l (suc k) cs ≡ Some u → RecordIn cs (suc k) u) → RecordIn (c ∷ cs) k u
    go (inl h) more =
        let r = record_is k (broken_from l k 1 0 0 c.attempts) u h in
        let b = broken_there l k 1 0 0 c.attempts r.0 r.1 in
        let here : k + 0 ≡ k = omega arith in
        let number : suc b.0 ≡ r.0 = let e = b.1 in omega (arith, e) in
        (0, c, b.0, (λ j. AtRecord (here j) (number j)) ∙ r.2, refl, b.2)
    go (inr h) more =
        let r = more h in
        let there : k + suc r.0 ≡ suc k + r.0 = omega arith in
        (suc r.0, r.1, r.2, ap (λ n. AtRecord n (suc r.2)) there ∙ r.3, r.4, r.5)

entry_there : (cs : List Account) (i : ℕ) (es : List LoggedEntry) (u : Untied) → unnamed_entry cs i es ≡ Some u → (j : ℕ) × (AtEntry (i + j) ≡ u) × (j < length es)
entry_there cs i [] u e = absurd (cc)
entry_there cs i (d ∷ es) u e =
    go (found_by (is_recorded cs d.entry.instance d.entry.attempt) (unnamed_entry cs (suc i) es) (AtEntry i) u e) (λ h. entry_there cs (suc i) es u h)
  where
    go : (unnamed_entry cs (suc i) es ≡ Some u) ⊎ (AtEntry i ≡ u) → (unnamed_entry cs (suc i) es ≡ Some u → (j : ℕ) × (AtEntry (suc i + j) ≡ u) × (j < length es))
        → (j : ℕ) × (AtEntry (i + j) ≡ u) × (j < length (d ∷ es))
    go (inl h) more =
        let r = more h in
        let f = r.2 in
        let there : i + suc r.0 ≡ suc i + r.0 = omega arith in
        (suc r.0, ap AtEntry there ∙ r.1, omega (arith, f))
    go (inr h) more = let here : i + 0 ≡ i = omega arith in (0, ap AtEntry here ∙ h, omega arith)

among_there : (cs : List Account) (p j : ℕ) (ns : List LoggedNote) (u : Untied) → unnamed_among cs p j ns ≡ Some u → (i : ℕ) × (AtNote p (j + i) ≡ u) × (i < length ns)
among_there cs p j [] u e = absurd (cc)
among_there cs p j (n ∷ ns) u e =
    go (found_by (is_recorded cs n.instance n.attempt) (unnamed_among cs p (suc j) ns) (AtNote p j) u e) (λ h. among_there cs p (suc j) ns u h)
  where
    go : (unnamed_among cs p (suc j) ns ≡ Some u) ⊎ (AtNote p j ≡ u) → (unnamed_among cs p (suc j) ns ≡ Some u → (i : ℕ) × (AtNote p (suc j + i) ≡ u) × (i < length ns))
        → (i : ℕ) × (AtNote p (j + i) ≡ u) × (i < length (n ∷ ns))
    go (inl h) more =
        let r = more h in
        let f = r.2 in
        let there : j + suc r.0 ≡ suc j + r.0 = omega arith in
        (suc r.0, ap (AtNote p) there ∙ r.1, omega (arith, f))
    go (inr h) more = let here : j + 0 ≡ j = omega arith in (0, ap (AtNote p) here ∙ h, omega arith)

-- a note behind the entries, of which the first has number i
abbrev NoteIn : List LoggedNote → List LoggedEntry → (i : ℕ) → Untied → Type 0
NoteIn ns es i u = (q : ℕ) × (j : ℕ) × (AtNote (i + q) j ≡ u) × (j < length (notes_from ns es (suc q)))

behind_there : (cs : List Account) (ns : List LoggedNote) (i : ℕ) (es : List LoggedEntry) (u : Untied) → unnamed_behind cs i es ≡ Some u → NoteIn ns es i u
behind_there cs ns i [] u e = absurd (cc)
behind_there cs ns i (d ∷ es) u e =
    go (found_in (unnamed_among cs i 0 d.notes) (unnamed_behind cs (suc i) es) u e) (λ h. behind_there cs d.notes (suc i) es u h)
  where
    go : (unnamed_among cs i 0 d.notes ≡ Some u) ⊎ (unnamed_behind cs (suc i) es ≡ Some u) → (unnamed_behind cs (suc i) es ≡ Some u → NoteIn d.notes es (suc i) u) → NoteIn ns (d ∷ es) i u
    go (inl h) more =
        let r = among_there cs i 0 d.notes u h in
        let here : i + 0 ≡ i = omega arith in
        let same : r.0 ≡ 0 + r.0 = omega arith in
        (0, r.0, (λ k. AtNote (here k) (same k)) ∙ r.1, r.2)
    go (inr h) more =
        let r = more h in
        let there : i + suc r.0 ≡ suc i + r.0 = omega arith in
        (suc r.0, r.1, ap (λ q. AtNote q r.1) there ∙ r.2, r.3)

-- ---- sizes are numbers of lines

pub attempts_length : (a : ℕ) (xs : List AttemptLine) → length (attempt_lines a xs) ≡ length xs
attempts_length a [] = refl
attempts_length a (x ∷ xs) = ap suc (attempts_length (suc a) xs)

accounts_length : (k : ℕ) (cs : List Account) → length (read_accounts_lines k cs) ≡ accounts_size cs
accounts_length k [] = refl
accounts_length k (c ∷ cs) =
    let own : List Line = attempt_lines 1 c.attempts in
    let rest : List Line = read_accounts_lines (suc k) cs in
    let both : length (own ++ rest) ≡ length own + length rest = length-append own rest in
    let a = attempts_length 1 c.attempts in
    let b = accounts_length (suc k) cs in
    omega (arith, both, a, b)

one_length : (n : ℕ) (es : List LoggedEntry) → length (entries_lines n (map (λ e. e.entry) es)) ≡ entries_size One es
one_length n [] = refl
one_length n (e ∷ es) =
    let own : List Line = map change_line e.entry.change.changes in
    let rest : List Line = entries_lines (suc n) (map (λ e. e.entry) es) in
    let both : length (own ++ rest) ≡ length own + length rest = length-append own rest in
    let a : length own ≡ length e.entry.change.changes = length-map e.entry.change.changes change_line in
    let b = one_length (suc n) es in
    omega (arith, both, a, b)

pub logged_length : (n : ℕ) (e : LoggedEntry) → length (logged_lines n e) ≡ own_size Two e + notes_size Two e.notes
logged_length n e =
    let changes : List Line = map change_line e.entry.change.changes in
    let prints : List Line = prints_lines e.prints in
    let notes : List Line = map note_line e.notes in
    let own : length (changes ++ (prints ++ notes)) ≡ length changes + length (prints ++ notes) = length-append changes (prints ++ notes) in
    let told : length (prints ++ notes) ≡ length prints + length notes = length-append prints notes in
    let a : length changes ≡ length e.entry.change.changes = length-map e.entry.change.changes change_line in
    let b : length notes ≡ length e.notes = length-map e.notes note_line in
    omega (arith, own, told, a, b)

two_length : (n : ℕ) (es : List LoggedEntry) → length (all_logged_lines n es) ≡ entries_size Two es
two_length n [] = refl
two_length n (e ∷ es) =
    let own : List Line = logged_lines n e in
    let rest : List Line = all_logged_lines (suc n) es in
    let both : length (own ++ rest) ≡ length own + length rest = length-append own rest in
    let a = logged_length n e in
    let b = two_length (suc n) es in
    both ∙ (λ i. a i + b i)

pub steps_length : (v : Version) (ns : List LoggedNote) (es : List LoggedEntry) → length (steps_lines v ns es) ≡ notes_size v ns + entries_size v es
steps_length One ns es = one_length 1 es ∙ (let same : entries_size One es ≡ 0 + entries_size One es = omega arith in same)
steps_length Two ns es =
    let notes : List Line = map note_line ns in
    let rest : List Line = all_logged_lines 1 es in
    let both : length (notes ++ rest) ≡ length notes + length rest = length-append notes rest in
    let a : length notes ≡ length ns = length-map ns note_line in
    let b = two_length 1 es in
    omega (arith, both, a, b)

-- the lines of a log are one behind those before the end
lines_length : (l : BundleLog) → length (log_lines l) ≡ suc (front_size l + entries_size l.version l.entries + accounts_size l.accounts)
lines_length l =
    go (line (codes "init " ++ decimal (length l.start))) (map value_line l.start) (steps_lines l.version l.notes l.entries) (read_accounts_lines 0 l.accounts) (line (codes "end " ++ decimal (length l.entries) ++ codes " " ++ decimal l.status))
    (length-map l.start value_line) (steps_length l.version l.notes l.entries) (accounts_length 0 l.accounts)
  where
    go : (first : Line) (start steps accounts : List Line) (last : Line) → length start ≡ length l.start → length steps ≡ notes_size l.version l.notes + entries_size l.version l.entries → length accounts ≡ accounts_size l.accounts
        → length ((first ∷ []) ++ start ++ steps ++ accounts ++ (last ∷ [])) ≡ suc (front_size l + entries_size l.version l.entries + accounts_size l.accounts)
    go first start steps accounts last a b c =
        let whole : length ((((first ∷ []) ++ start) ++ steps ++ accounts) ++ (last ∷ [])) ≡ length (((first ∷ []) ++ start) ++ steps ++ accounts) + 1 = length-append (((first ∷ []) ++ start) ++ steps ++ accounts) (last ∷ []) in
        let three : length ((((first ∷ []) ++ start) ++ steps) ++ accounts) ≡ length (((first ∷ []) ++ start) ++ steps) + length accounts = length-append (((first ∷ []) ++ start) ++ steps) accounts in
        let two : length (((first ∷ []) ++ start) ++ steps) ≡ length ((first ∷ []) ++ start) + length steps = length-append ((first ∷ []) ++ start) steps in
        omega (arith, whole, three, two, a, b, c)

-- ---- a place has room before the end

own_some : (v : Version) (e : LoggedEntry) → 0 < own_size v e
own_some One e = omega arith
own_some Two e = omega arith

entry_room : (v : Version) (es : List LoggedEntry) (j : ℕ) → j < length es → entries_size v (take j es) < entries_size v es
entry_room v [] j h = absurd (omega (arith, h))
entry_room v (e ∷ es) zero h = let own = own_some v e in omega (arith, own)
entry_room v (e ∷ es) (suc j) h = let rest = entry_room v es j (omega (arith, h)) in omega (arith, rest)

record_room : (cs : List Account) (k : ℕ) (c : Account) (i : ℕ) → nth cs k ≡ Some c → i < length c.attempts → accounts_size (take k cs) + suc i < accounts_size cs
record_room [] k c i e h = absurd (cc)
record_room (d ∷ cs) zero c i e h =
    let same : d ≡ c = cc in
    let size : length d.attempts ≡ length c.attempts = ap (λ (z : Account). length z.attempts) same in
    omega (arith, size, h)
record_room (d ∷ cs) (suc k) c i e h = let rest = record_room cs k c i e h in omega (arith, rest)

note_room : (ns : List LoggedNote) (es : List LoggedEntry) (p j : ℕ) → j < length (notes_from ns es (suc p)) → entries_size Two (take p es) + on 0 (nth es p) (own_size Two) + j < entries_size Two es
note_room ns [] p j h = absurd (omega (arith, h))
note_room ns (e ∷ es) zero j h = let few : j < length e.notes = h in omega (arith, few)
note_room ns (e ∷ es) (suc p) j h = let rest = note_room e.notes es p j h in omega (arith, rest)

-- ---- the line of a place

module _ (l : BundleLog) where
  abbrev HasLine : Untied → Type 0
  HasLine u = lines_before l u < length (log_lines l)

  -- what stands before the end
  before_end : (n : ℕ) → n < front_size l + entries_size l.version l.entries + accounts_size l.accounts → n < length (log_lines l)
  before_end n h = subst (λ m. n < m) (sym (lines_length l)) (later n _ h)
    where
      later : (n m : ℕ) → n < m → n < suc m
      later n m h = omega (arith, h)

  record_line : (u : Untied) → RecordIn l.accounts 0 u → HasLine u
  record_line u r =
      let room = record_room l.accounts r.0 r.1 r.2 r.4 r.5 in
      let here : r.0 ≡ 0 + r.0 = omega arith in
      subst HasLine (ap (λ n. AtRecord n (suc r.2)) here ∙ r.3) (before_end (lines_before l (AtRecord r.0 (suc r.2))) (go (front_size l + entries_size l.version l.entries) (accounts_size (take r.0 l.accounts)) (suc r.2) (accounts_size l.accounts) room))
    where
      go : (front some a all : ℕ) → some + a < all → front + some + a < front + all
      go front some a all h = omega (arith, h)

  entry_line : (j : ℕ) (u : Untied) → AtEntry (1 + j) ≡ u → j < length l.entries → HasLine u
  entry_line j u e h =
      let room = entry_room l.version l.entries j h in
      let here : suc j ≡ 1 + j = omega arith in
      subst HasLine (ap AtEntry here ∙ e) (before_end (lines_before l (AtEntry (suc j))) (go (front_size l) (entries_size l.version (take j l.entries)) (entries_size l.version l.entries) (accounts_size l.accounts) room))
    where
      go : (front some all behind : ℕ) → some < all → front + some < front + all + behind
      go front some all behind h = omega (arith, h)

  -- notes have lines in version 2 alone
  first_line : (i : ℕ) (u : Untied) → l.version ≡ Two → AtNote 0 (0 + i) ≡ u → i < length l.notes → HasLine u
  first_line i u two e h =
      let told : notes_size l.version l.notes ≡ length l.notes = ap (λ v. notes_size v l.notes) two in
      let here : i ≡ 0 + i = omega arith in
      subst HasLine (ap (AtNote 0) here ∙ e) (before_end (lines_before l (AtNote 0 i)) (go (length l.start) i (length l.notes) (notes_size l.version l.notes) (entries_size l.version l.entries) (accounts_size l.accounts) told h))
    where
      go : (start i notes told entries behind : ℕ) → told ≡ notes → i < notes → suc start + i < suc start + told + entries + behind
      go start i notes told entries behind e h = omega (arith, e, h)

  behind_line : (u : Untied) → l.version ≡ Two → NoteIn l.notes l.entries 1 u → HasLine u
  behind_line u two r =
      let there : suc r.0 ≡ 1 + r.0 = omega arith in
      let room = subst (λ v. entries_size v (take r.0 l.entries) + on 0 (nth l.entries r.0) (own_size v) + r.1 < entries_size v l.entries) (sym two) (note_room l.notes l.entries r.0 r.1 r.3) in
      subst HasLine (ap (λ q. AtNote q r.1) there ∙ r.2)
      (before_end (lines_before l (AtNote (suc r.0) r.1)) (go (front_size l) (entries_size l.version (take r.0 l.entries)) (own_size_at l r.0) r.1 (entries_size l.version l.entries) (accounts_size l.accounts) room))
    where
      go : (front some own j all behind : ℕ) → some + own + j < all → front + some + own + j < front + all + behind
      go front some own j all behind h = omega (arith, h)

  pub two_line : (u : Untied) → l.version ≡ Two → untied_at l ≡ Some u → HasLine u
  two_line u two e =
      by_record (found_in (broken_records l 0 l.accounts) (or_else (unnamed_entry l.accounts 1 l.entries) (unnamed_note l.accounts l.notes l.entries)) u e)
    where
      by_note : (unnamed_among l.accounts 0 0 l.notes ≡ Some u) ⊎ (unnamed_behind l.accounts 1 l.entries ≡ Some u) → HasLine u
      by_note (inl h) = let r = among_there l.accounts 0 0 l.notes u h in first_line r.0 u two r.1 r.2
      by_note (inr h) = behind_line u two (behind_there l.accounts l.notes 1 l.entries u h)

      by_entry : (unnamed_entry l.accounts 1 l.entries ≡ Some u) ⊎ (unnamed_note l.accounts l.notes l.entries ≡ Some u) → HasLine u
      by_entry (inl h) = let r = entry_there l.accounts 1 l.entries u h in entry_line r.0 u r.1 r.2
      by_entry (inr h) = by_note (found_in (unnamed_among l.accounts 0 0 l.notes) (unnamed_behind l.accounts 1 l.entries) u h)

      by_record : (broken_records l 0 l.accounts ≡ Some u) ⊎ (or_else (unnamed_entry l.accounts 1 l.entries) (unnamed_note l.accounts l.notes l.entries) ≡ Some u) → HasLine u
      by_record (inl h) = record_line u (record_there l 0 l.accounts u h)
      by_record (inr h) = by_entry (found_in (unnamed_entry l.accounts 1 l.entries) (unnamed_note l.accounts l.notes l.entries) u h)

-- ---- of a log that is brought over each note has its record

abbrev AllNamed : {N : Type 0} → (N → Bool) → List N → Type 0
AllNamed t [] = Unit {0}
AllNamed t (n ∷ ns) = (t n ≡ true) × AllNamed t ns

both_named : {N : Type 0} (t : N → Bool) (ns ms : List N) → AllNamed t ns → AllNamed t ms → AllNamed t (ns ++ ms)
both_named t [] ms h g = g
both_named t (n ∷ ns) ms h g = (h.0, both_named t ns ms h.1 g)

module _ (cs : List Account) where
  abbrev is_named : Note → Bool
  is_named n = is_recorded cs n.instance n.attempt

  told_here : (k i : ℕ) (c : Account) (x : AttemptLine) → nth cs k ≡ Some c → i < length c.attempts → AllNamed is_named (note_told k (suc i) x)
  told_here k i c (StepLine n) e h = tt
  told_here k i c (NoteLine kind p) e h = (ap (λ o. on false o (λ z. has_attempt z.attempts (suc i))) e ∙ lt-ltb i (length c.attempts) h, tt)
  told_here k i c (HeldLine o x q) e h = tt
  told_here k i c (HeldLogLine o) e h = tt
  told_here k i c (DownLine o x q) e h = tt
  told_here k i c (FullLine n) e h = tt

  told_named : (k i : ℕ) (c : Account) (xs : List AttemptLine) → nth cs k ≡ Some c → i + length xs ≡ length c.attempts → AllNamed is_named (notes_told k (suc i) xs)
  told_named k i c [] e h = tt
  told_named k i c (x ∷ xs) e h =
      both_named is_named (note_told k (suc i) x) (notes_told k (suc (suc i)) xs) (told_here k i c x e (omega (arith, h))) (told_named k (suc i) c xs e (omega (arith, h)))

  all_named : (k : ℕ) (ds : List Account) → ((j : ℕ) (c : Account) → nth ds j ≡ Some c → nth cs (k + j) ≡ Some c) → AllNamed is_named (all_told k ds)
  all_named k [] h = tt
  all_named k (d ∷ ds) h =
      let here : k + 0 ≡ k = omega arith in
      let first : nth cs k ≡ Some d = ap (nth cs) (sym here) ∙ h 0 d refl in
      let size : 0 + length d.attempts ≡ length d.attempts = omega arith in
      both_named is_named (notes_told k 1 d.attempts) (all_told (suc k) ds) (told_named k 0 d d.attempts first size)
      (all_named (suc k) ds (λ j c e. let there : suc k + j ≡ k + suc j = omega arith in ap (nth cs) there ∙ h (suc j) c e))

  -- so none of those of one place is found
  none_at : (p q j : ℕ) (ns : List Note) → AllNamed is_named ns → unnamed_among cs q j (notes_at p ns) ≡ None
  none_at p q j [] h = refl
  none_at p q j (n ∷ ns) h = go (nat_eq n.position p) (record { instance = n.instance; attempt = n.attempt; kind = n.kind }) h.0 (none_at p q j ns h.1) (none_at p q (suc j) ns h.1)
    where
      go : (b : Bool) (m : LoggedNote) → is_recorded cs m.instance m.attempt ≡ true → unnamed_among cs q j (notes_at p ns) ≡ None → unnamed_among cs q (suc j) (notes_at p ns) ≡ None
          → unnamed_among cs q j (if b then m ∷ notes_at p ns else notes_at p ns) ≡ None
      go true m named e f = ap (λ t. if t then unnamed_among cs q (suc j) (notes_at p ns) else Some (AtNote q j)) named ∙ f
      go false m named e f = e

  none_behind : (i : ℕ) (ns : List Note) (es : List LoggedEntry) → AllNamed is_named ns → unnamed_behind cs i (migrated_from i ns es) ≡ None
  none_behind i ns [] h = refl
  none_behind i ns (e ∷ es) h = ap (λ o. or_else o (unnamed_behind cs (suc i) (migrated_from (suc i) ns es))) (none_at i i 0 ns h) ∙ none_behind (suc i) ns es h

no_note : (l : BundleLog) → unnamed_note l.accounts (migrated l).notes (migrated l).entries ≡ None
no_note l =
    let named = all_named l.accounts 0 l.accounts (λ j c e. let same : 0 + j ≡ j = omega arith in ap (nth l.accounts) same ∙ e) in
    ap (λ o. or_else o (unnamed_behind l.accounts 1 (migrated l).entries)) (none_at l.accounts 0 0 0 (all_told 0 l.accounts) named) ∙ none_behind l.accounts 1 (all_told 0 l.accounts) l.entries named

migrated_length : (i : ℕ) (ns : List Note) (es : List LoggedEntry) → length (migrated_from i ns es) ≡ length es
migrated_length i ns [] = refl
migrated_length i ns (e ∷ es) = ap suc (migrated_length (suc i) ns es)

module _ (l : BundleLog) where
  abbrev entry : Option Untied
  entry = unnamed_entry l.accounts 1 (migrated l).entries

  abbrev note : Option Untied
  note = unnamed_note l.accounts (migrated l).notes (migrated l).entries

  pub migrated_line : (u : Untied) → untied_at (migrated l) ≡ Some u → lines_before l u < length (log_lines l)
  migrated_line u e = by_record (found_in (broken_records (migrated l) 0 l.accounts) (or_else entry note) u e)
    where
      by_entry : (entry ≡ Some u) ⊎ (note ≡ Some u) → lines_before l u < length (log_lines l)
      by_entry (inl h) =
          let r = entry_there l.accounts 1 (migrated l).entries u h in
          let size = migrated_length 1 (all_told 0 l.accounts) l.entries in
          entry_line l r.0 u r.1 (subst (λ n. r.0 < n) size r.2)
      by_entry (inr h) = absurd (let f = sym (no_note l) ∙ h in cc)

      by_record : (broken_records (migrated l) 0 l.accounts ≡ Some u) ⊎ (or_else entry note ≡ Some u) → lines_before l u < length (log_lines l)
      by_record (inl h) = record_line l u (record_there (migrated l) 0 l.accounts u h)
      by_record (inr h) = by_entry (found_in entry note u h)
