-- Before the line of a place so many lines stand in a log's text.
use Rattle.std.proofs.Common.{◌≡◌, ◌+◌, ℕ, zero, suc, List, [], ◌∷◌, ◌++◌, length, length-append, map, take, codes, decimal, Some, refl, ap, sym, ◌∙◌, arith}
use Rattle.std.proofs.lemmas.List.{length-map}
use Rattle.pgo_model.specs.Bundle.{fields, value_line, change_line, entries_lines}
use Rattle.pgo_model.specs.Machine.{nth}
use Rattle.pgo_model.specs.MachineLists.{nth_left}
use Rattle.pgo_model.specs.ModuleText.{Line, line}
use Rattle.pgo_model.specs.Options.{on}
use Rattle.pgo_bundle.specs.Accounts.{AttemptLine, Account, attempt_fields, attempt_lines, account_lines, read_accounts_lines}
use Rattle.pgo_bundle.specs.BundleLog.{Version, One, Two, LoggedNote, LoggedEntry, BundleLog, notes_from}
use Rattle.pgo_bundle.specs.Lines.{note_line, prints_lines, step_line, logged_lines, all_logged_lines, steps_lines, log_lines}
use Rattle.pgo_bundle.specs.Places.{own_size, notes_size, entries_size, accounts_size, front_size, lines_before, AtRecord, AtEntry, AtNote, Untied, entry_line, IsLineAt}
use Rattle.pgo_bundle.proofs.PlaceLaws.{attempts_length, logged_length, steps_length}

-- ---- lists behind one another

nth_behind : {A : Type 0} (xs ys : List A) (i n : ℕ) → n ≡ length xs + i → nth (xs ++ ys) n ≡ nth ys i
nth_behind [] ys i n e = ap (nth ys) (omega (arith, e))
nth_behind (x ∷ xs) ys i zero e = absurd (omega (arith, e))
nth_behind (x ∷ xs) ys i (suc n) e = nth_behind xs ys i n (omega (arith, e))

nth_map : {A B : Type 0} (f : A → B) (xs : List A) (i : ℕ) (x : A) → nth xs i ≡ Some x → nth (map f xs) i ≡ Some (f x)
nth_map f [] i x e = absurd (cc)
nth_map f (y ∷ xs) zero x e = ap (λ z. Some (f z)) (cc)
nth_map f (y ∷ xs) (suc i) x e = nth_map f xs i x e

-- ---- records

attempt_at : (a : ℕ) (xs : List AttemptLine) (i : ℕ) (x : AttemptLine) → nth xs i ≡ Some x → nth (attempt_lines a xs) i ≡ Some (line (fields (decimal (a + i) ∷ attempt_fields x)))
attempt_at a [] i x e = absurd (cc)
attempt_at a (y ∷ xs) zero x e =
    let here : a ≡ a + 0 = omega arith in
    let same : y ≡ x = cc in
    λ j. Some (line (fields (decimal (here j) ∷ attempt_fields (same j))))
attempt_at a (y ∷ xs) (suc i) x e =
    let there : suc a + i ≡ a + suc i = omega arith in
    attempt_at (suc a) xs i x e ∙ ap (λ n. Some (line (fields (decimal n ∷ attempt_fields x)))) there

record_at : (n : ℕ) (cs : List Account) (k : ℕ) (c : Account) (i : ℕ) (x : AttemptLine) (at : ℕ) → nth cs k ≡ Some c → nth c.attempts i ≡ Some x → at ≡ accounts_size (take k cs) + suc i
    → nth (read_accounts_lines n cs) at ≡ Some (line (fields (decimal (suc i) ∷ attempt_fields x)))
record_at n [] k c i x at e h s = absurd (cc)
record_at n (d ∷ cs) zero c i x at e h s =
    let same : d ≡ c = cc in
    let place : at ≡ suc i = omega (arith, s) in
    let number : 1 + i ≡ suc i = omega arith in
    let own : nth (attempt_lines 1 d.attempts) i ≡ Some (line (fields (decimal (suc i) ∷ attempt_fields x))) =
    attempt_at 1 d.attempts i x (ap (λ (z : Account). nth z.attempts i) same ∙ h) ∙ ap (λ m. Some (line (fields (decimal m ∷ attempt_fields x)))) number
    in
    ap (nth (read_accounts_lines n (d ∷ cs))) place ∙ nth_left (attempt_lines 1 d.attempts) (read_accounts_lines (suc n) cs) i _ own
record_at n (d ∷ cs) (suc k) c i x at e h s =
    let size = attempts_length 1 d.attempts in
    let behind : at ≡ length (account_lines n d) + (accounts_size (take k cs) + suc i) = omega (arith, s, size) in
    nth_behind (account_lines n d) (read_accounts_lines (suc n) cs) (accounts_size (take k cs) + suc i) at behind ∙ record_at (suc n) cs k c i x _ e h refl

-- ---- entries

one_at : (n : ℕ) (es : List LoggedEntry) (j : ℕ) (e : LoggedEntry) (at : ℕ) → nth es j ≡ Some e → at ≡ entries_size One (take j es) → nth (entries_lines n (map (λ d. d.entry) es)) at ≡ Some (entry_line One (n + j) e)
one_at n [] j e at h s = absurd (cc)
one_at n (d ∷ es) zero e at h s =
    let same : d ≡ e = cc in
    let here : n ≡ n + 0 = omega arith in
    ap (nth (entries_lines n (map (λ z. z.entry) (d ∷ es)))) s ∙ (λ i. Some (entry_line One (here i) (same i)))
one_at n (d ∷ es) (suc j) e at h s =
    let there : suc n + j ≡ n + suc j = omega arith in
    let changes : List Line = map change_line d.entry.change.changes in
    let size : length changes ≡ length d.entry.change.changes = length-map d.entry.change.changes change_line in
    let behind : at ≡ length (entry_line One n d ∷ changes) + entries_size One (take j es) = omega (arith, s, size) in
    nth_behind (entry_line One n d ∷ changes) (entries_lines (suc n) (map (λ z. z.entry) es)) (entries_size One (take j es)) at behind
    ∙ one_at (suc n) es j e _ h refl
    ∙ ap (λ m. Some (entry_line One m e)) there

two_at : (n : ℕ) (es : List LoggedEntry) (j : ℕ) (e : LoggedEntry) (at : ℕ) → nth es j ≡ Some e → at ≡ entries_size Two (take j es) → nth (all_logged_lines n es) at ≡ Some (entry_line Two (n + j) e)
two_at n [] j e at h s = absurd (cc)
two_at n (d ∷ es) zero e at h s =
    let same : d ≡ e = cc in
    let here : n ≡ n + 0 = omega arith in
    ap (nth (all_logged_lines n (d ∷ es))) s ∙ (λ i. Some (entry_line Two (here i) (same i)))
two_at n (d ∷ es) (suc j) e at h s =
    let there : suc n + j ≡ n + suc j = omega arith in
    let size = logged_length n d in
    let behind : at ≡ length (logged_lines n d) + entries_size Two (take j es) = omega (arith, s, size) in
    nth_behind (logged_lines n d) (all_logged_lines (suc n) es) (entries_size Two (take j es)) at behind ∙ two_at (suc n) es j e _ h refl ∙ ap (λ m. Some (entry_line Two m e)) there

entry_at : (v : Version) (ns : List LoggedNote) (es : List LoggedEntry) (j : ℕ) (e : LoggedEntry) (at : ℕ) → nth es j ≡ Some e → at ≡ notes_size v ns + entries_size v (take j es) → nth (steps_lines v ns es) at ≡ Some (entry_line v (suc j) e)
entry_at One ns es j e at h s = one_at 1 es j e at h (omega (arith, s)) ∙ ap (λ m. Some (entry_line One m e)) (let number : 1 + j ≡ suc j = omega arith in number)
entry_at Two ns es j e at h s =
    let number : 1 + j ≡ suc j = omega arith in
    let size : length (map note_line ns) ≡ length ns = length-map ns note_line in
    nth_behind (map note_line ns) (all_logged_lines 1 es) (entries_size Two (take j es)) at (omega (arith, s, size)) ∙ two_at 1 es j e _ h refl ∙ ap (λ m. Some (entry_line Two m e)) number

-- ---- notes

note_behind : (m : ℕ) (ns : List LoggedNote) (es : List LoggedEntry) (p j : ℕ) (n : LoggedNote) (at : ℕ) → nth (notes_from ns es (suc p)) j ≡ Some n → at ≡ entries_size Two (take p es) + on 0 (nth es p) (own_size Two) + j
    → nth (all_logged_lines m es) at ≡ Some (note_line n)
note_behind m ns [] p j n at h s = absurd (cc)
note_behind m ns (d ∷ es) zero j n at h s =
    let step : Line = step_line m d.entry d.prints in
    let changes : List Line = map change_line d.entry.change.changes in
    let prints : List Line = prints_lines d.prints in
    let notes : List Line = map note_line d.notes in
    let size : length changes ≡ length d.entry.change.changes = length-map d.entry.change.changes change_line in
    let behind : at ≡ length (step ∷ changes) + (length prints + j) = omega (arith, s, size) in
    let own : nth ((step ∷ changes) ++ (prints ++ notes)) at ≡ Some (note_line n) =
    nth_behind (step ∷ changes) (prints ++ notes) (length prints + j) at behind ∙ nth_behind prints notes j (length prints + j) refl ∙ nth_map note_line d.notes j n h
    in
    nth_left (logged_lines m d) (all_logged_lines (suc m) es) at (note_line n) own
note_behind m ns (d ∷ es) (suc p) j n at h s =
    let size = logged_length m d in
    let behind : at ≡ length (logged_lines m d) + (entries_size Two (take p es) + on 0 (nth es p) (own_size Two) + j) = omega (arith, s, size) in
    nth_behind (logged_lines m d) (all_logged_lines (suc m) es) _ at behind ∙ note_behind (suc m) d.notes es p j n _ h refl

-- ---- the whole

module _ (l : BundleLog) where
  abbrev start : List Line
  start = (line (codes "init " ++ decimal (length l.start)) ∷ []) ++ map value_line l.start

  abbrev steps : List Line
  steps = steps_lines l.version l.notes l.entries

  abbrev accounts : List Line
  accounts = read_accounts_lines 0 l.accounts

  abbrev last : List Line
  last = line (codes "end " ++ decimal (length l.entries) ++ codes " " ++ decimal l.status) ∷ []

  start_length : length start ≡ suc (length l.start)
  start_length = ap suc (length-map l.start value_line)

  in_steps : (i at : ℕ) (x : Line) → nth steps i ≡ Some x → at ≡ suc (length l.start) + i → nth (log_lines l) at ≡ Some x
  in_steps i at x e s =
      let size = start_length in
      nth_left (start ++ steps ++ accounts) last at x (nth_left (start ++ steps) accounts at x (nth_behind start steps i at (s ∙ ap (λ n. n + i) (sym size)) ∙ e))

  in_accounts : (i at : ℕ) (x : Line) → nth accounts i ≡ Some x → at ≡ front_size l + entries_size l.version l.entries + i → nth (log_lines l) at ≡ Some x
  in_accounts i at x e s =
      let both : length (start ++ steps) ≡ length start + length steps = length-append start steps in
      let size = start_length in
      let told = steps_length l.version l.notes l.entries in
      let behind : at ≡ length (start ++ steps) + i =
      s ∙ regroup (suc (length l.start)) (notes_size l.version l.notes) (entries_size l.version l.entries) i ∙ (λ j. (sym size j + sym told j) + i) ∙ ap (λ n. n + i) (sym both)
      in
      nth_left (start ++ steps ++ accounts) last at x (nth_behind (start ++ steps) accounts i at behind ∙ e)
    where
      regroup : (a b c i : ℕ) → a + b + c + i ≡ a + (b + c) + i
      regroup a b c i = omega arith

  pub line_there : (u : Untied) (x : Line) → IsLineAt l u x → nth (log_lines l) (lines_before l u) ≡ Some x
  line_there (AtRecord k a) x h =
      let number : a ≡ suc h.1 = h.4 in
      let place = record_at 0 l.accounts k h.0 h.1 h.2 (accounts_size (take k l.accounts) + a) h.3 h.5 (ap (λ n. accounts_size (take k l.accounts) + n) number) in
      in_accounts (accounts_size (take k l.accounts) + a) (lines_before l (AtRecord k a)) x (place ∙ ap (λ n. Some (line (fields (decimal n ∷ attempt_fields h.2)))) (sym number) ∙ ap Some (sym h.6))
      (regroup (front_size l + entries_size l.version l.entries) (accounts_size (take k l.accounts)) a)
    where
      regroup : (front some a : ℕ) → front + some + a ≡ front + (some + a)
      regroup front some a = omega arith
  line_there (AtEntry zero) x h = absurd (let e = h.2 in omega (arith, e))
  line_there (AtEntry (suc i)) x h =
      let number : suc i ≡ suc h.0 = h.2 in
      let same : i ≡ h.0 = omega (arith, number) in
      let place = entry_at l.version l.notes l.entries i h.1 (notes_size l.version l.notes + entries_size l.version (take i l.entries)) (ap (nth l.entries) same ∙ h.3) refl in
      in_steps (notes_size l.version l.notes + entries_size l.version (take i l.entries)) (lines_before l (AtEntry (suc i))) x (place ∙ ap Some (sym h.4))
      (regroup (suc (length l.start)) (notes_size l.version l.notes) (entries_size l.version (take i l.entries)))
    where
      regroup : (a b c : ℕ) → a + b + c ≡ a + (b + c)
      regroup a b c = omega arith
  line_there (AtNote zero j) x h =
      let steps_are : steps ≡ map note_line l.notes ++ all_logged_lines 1 l.entries = ap (λ v. steps_lines v l.notes l.entries) h.1 in
      let own : nth (map note_line l.notes ++ all_logged_lines 1 l.entries) j ≡ Some (note_line h.0) = nth_left (map note_line l.notes) (all_logged_lines 1 l.entries) j (note_line h.0) (nth_map note_line l.notes j h.0 h.2) in
      in_steps j (lines_before l (AtNote zero j)) x (ap (λ ls. nth ls j) steps_are ∙ own ∙ ap Some (sym h.3)) refl
  line_there (AtNote (suc p) j) x h =
      let two = h.1 in
      let steps_are : steps ≡ map note_line l.notes ++ all_logged_lines 1 l.entries = ap (λ v. steps_lines v l.notes l.entries) two in
      let size : length (map note_line l.notes) ≡ length l.notes = length-map l.notes note_line in
      let place : ℕ = entries_size Two (take p l.entries) + on 0 (nth l.entries p) (own_size Two) + j in
      let own : nth (map note_line l.notes ++ all_logged_lines 1 l.entries) (length l.notes + place) ≡ Some (note_line h.0) =
      nth_behind (map note_line l.notes) (all_logged_lines 1 l.entries) place (length l.notes + place) (ap (λ n. n + place) (sym size)) ∙ note_behind 1 l.notes l.entries p j h.0 place h.2 refl
      in
      in_steps (length l.notes + place) (lines_before l (AtNote (suc p) j)) x (ap (λ ls. nth ls (length l.notes + place)) steps_are ∙ own ∙ ap Some (sym h.3))
      ((λ i. suc (length l.start) + notes_size (two i) l.notes + entries_size (two i) (take p l.entries) + on 0 (nth l.entries p) (own_size (two i)) + j)
      ∙ regroup (suc (length l.start)) (length l.notes) (entries_size Two (take p l.entries)) (on 0 (nth l.entries p) (own_size Two)) j)
    where
      regroup : (a b c d e : ℕ) → a + b + c + d + e ≡ a + (b + (c + d + e))
      regroup a b c d e = omega arith
