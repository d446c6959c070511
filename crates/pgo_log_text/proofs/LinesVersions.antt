-- The entries of a log in either version, and the notes before them.
use Rattle.std.proofs.Common.{◌≡◌, ◌<◌, ◌≤◌, ◌^◌, ◌+◌, ℕ, suc, true, false, List, [], ◌∷◌, ◌++◌, length, map, Some, refl, sym, ap, subst, ◌∙◌, append_assoc}
use Rattle.std.specs.Prelude.{codes}
use Rattle.pgo_model.specs.ModuleText.{flatten}
use Rattle.pgo_model.specs.Bundle.{entry_lines, entries_lines}
use Rattle.pgo_bundle.specs.Lines.{note_line, logged_lines, all_logged_lines, steps_lines}
use Rattle.pgo_value_text.proofs.Steps.{some_pair}
use Rattle.pgo_log_text.specs.IsBundle.{Version, One, Two, LoggedNote, LoggedEntry, ArePrints, AreNotes, IsLogged, AreLogged, TellsAs, AreUntold}
use Rattle.pgo_log_text.specs.Bytes.{begins}
use Rattle.pgo_log_text.specs.Lines.{entry_as, first_notes, entries}
use Rattle.pgo_log_text.proofs.LinesEntries.{flatten_append, itself, plain_text, IsPlain, plain_some, plain_finds}
use Rattle.pgo_log_text.proofs.LinesTold.{notes_some, notes_finds, logged_text, logged_some, logged_finds}
use Rattle.pgo_log_text.proofs.LinesParts.{texts, Each, PartText, parts_some, parts_finds_before}

abbrev entry_text : Version → ℕ → LoggedEntry → List ℕ
entry_text One i e = plain_text i e
entry_text Two i e = logged_text i e

abbrev IsEntryAs : Version → LoggedEntry → Type 0
IsEntryAs One e = IsPlain e
IsEntryAs Two e = IsLogged e

some_as : (v : Version) (i : ℕ) (bs : List ℕ) (e : LoggedEntry) (r : List ℕ) → entry_as v i bs ≡ Some (e, r) → PartText itself (entry_text v) (IsEntryAs v) i bs e r
some_as One i bs e r h = plain_some i bs e r h
some_as Two i bs e r h = logged_some i bs e r h

-- behind an entry stands no note
abbrev Ends : List ℕ → Type 0
Ends r = begins (codes "note ") r ≡ false

finds_as : (v : Version) (i : ℕ) (e : LoggedEntry) (r : List ℕ) → i < 2 ^ 32 → IsEntryAs v e → Ends r → entry_as v i (entry_text v i e ++ r) ≡ Some (e, r)
finds_as One i e r below h b = plain_finds i e r below h
finds_as Two i e r below h b = logged_finds i e r below h b

starts_as : (v : Version) (i : ℕ) (e : LoggedEntry) (r : List ℕ) → begins (codes "step ") (entry_text v i e ++ r) ≡ true
starts_as One i e r = refl
starts_as Two i e r = refl

ends_as : (v : Version) (i : ℕ) (e : LoggedEntry) (r : List ℕ) → Ends (entry_text v i e ++ r)
ends_as One i e r = refl
ends_as Two i e r = refl

-- ---- the lines of entries are the texts of each

plain_texts : (i : ℕ) (es : List LoggedEntry) → flatten (entries_lines i (map (λ e. e.entry) es)) ≡ texts plain_text i es
plain_texts i [] = refl
plain_texts i (e ∷ es) = flatten_append (entry_lines i e.entry) (entries_lines (suc i) (map (λ e. e.entry) es)) ∙ ap (λ z. plain_text i e ++ z) (plain_texts (suc i) es)

logged_texts : (i : ℕ) (es : List LoggedEntry) → flatten (all_logged_lines i es) ≡ texts logged_text i es
logged_texts i [] = refl
logged_texts i (e ∷ es) = flatten_append (logged_lines i e) (all_logged_lines (suc i) es) ∙ ap (λ z. logged_text i e ++ z) (logged_texts (suc i) es)

-- the text of the notes before the entries
abbrev first_text : Version → List LoggedNote → List ℕ
first_text One ns = []
first_text Two ns = flatten (map note_line ns)

steps_text : (v : Version) (ns : List LoggedNote) (es : List LoggedEntry) → flatten (steps_lines v ns es) ≡ first_text v ns ++ texts (entry_text v) 1 es
steps_text One ns es = plain_texts 1 es
steps_text Two ns es = flatten_append (map note_line ns) (all_logged_lines 1 es) ∙ ap (λ z. flatten (map note_line ns) ++ z) (logged_texts 1 es)

-- ---- what each entry meets, and what all do

are_untold : (es : List LoggedEntry) → Each IsPlain es → AreLogged es × AreUntold es
are_untold [] h = (tt, tt)
are_untold (e ∷ es) h =
    let rest = are_untold es h.1 in
    let p = h.0 in
    ((record { entry = p.entry; prints = subst ArePrints (sym p.prints) tt; notes = subst AreNotes (sym p.notes) tt }, rest.0), (p.prints, p.notes, rest.1))

are_logged : (es : List LoggedEntry) → Each IsLogged es → AreLogged es
are_logged [] h = tt
are_logged (e ∷ es) h = (h.0, are_logged es h.1)

each_untold : (es : List LoggedEntry) → AreLogged es → AreUntold es → Each IsPlain es
each_untold [] h u = tt
each_untold (e ∷ es) h u = (record { entry = h.0.entry; prints = u.0; notes = u.1 }, each_untold es h.1 u.2)

each_logged : (es : List LoggedEntry) → AreLogged es → Each IsLogged es
each_logged [] h = tt
each_logged (e ∷ es) h = (h.0, each_logged es h.1)

same : (es : List LoggedEntry) → map itself es ≡ es
same [] = refl
same (e ∷ es) = ap (λ z. e ∷ z) (same es)

-- ---- notes and entries together

pub record StepsText (v : Version) (left : ℕ) (ns : List LoggedNote) (es : List LoggedEntry) (bs r : List ℕ) : Type 0 where
  pub text_is : bs ≡ flatten (steps_lines v ns es) ++ r
  pub few : length es ≤ left
  pub notes : AreNotes ns
  pub entries : AreLogged es
  pub told : TellsAs v ns es

told_as : (v : Version) (ns : List LoggedNote) (es : List LoggedEntry) → (v ≡ One → ns ≡ []) → Each (IsEntryAs v) es → AreLogged es × TellsAs v ns es
told_as One ns es n h = let u = are_untold es h in (u.0, (n refl, u.1))
told_as Two ns es n h = (are_logged es h, tt)

first_some : (v : Version) (bs : List ℕ) (ns : List LoggedNote) (r : List ℕ) → first_notes v bs ≡ Some (ns, r) → (bs ≡ first_text v ns ++ r) × AreNotes ns × (v ≡ One → ns ≡ [])
first_some One bs ns r e = let p = some_pair {A = List LoggedNote} [] ns bs r e in (p.1, subst AreNotes p.0 tt, λ h. sym p.0)
first_some Two bs ns r e = let p = notes_some bs ns r e in (p.0, p.1, λ h. absurd (cc))

pub steps_some : (v : Version) (left : ℕ) (bs : List ℕ) (ns : List LoggedNote) (mid : List ℕ) (es : List LoggedEntry) (r : List ℕ) → first_notes v bs ≡ Some (ns, mid) → entries v left 1 [] mid ≡ Some (es, r) → StepsText v left ns es bs r
steps_some v left bs ns mid es r first h =
    let f = first_some v bs ns mid first in
    let p = parts_some (codes "step ") (entry_as v) itself (entry_text v) (IsEntryAs v) (some_as v) left 1 [] mid es r h in
    let is : es ≡ p.behind = p.is_all ∙ same p.behind in
    let told = told_as v ns p.behind f.2 p.each in
    subst (λ es. StepsText v left ns es bs r) (sym is) (record {
      text_is = f.0 ∙ ap (λ z. first_text v ns ++ z) p.text_is ∙ sym (append_assoc (first_text v ns) (texts (entry_text v) 1 p.behind) r) ∙ ap (λ z. z ++ r) (sym (steps_text v ns p.behind));
      few = p.few;
      notes = f.1;
      entries = told.0;
      told = told.1;
    })

first_finds : (v : Version) (ns : List LoggedNote) (es : List LoggedEntry) (r : List ℕ) → AreNotes ns → TellsAs v ns es → Ends r → first_notes v (first_text v ns ++ r) ≡ Some (ns, r)
first_finds One ns es r h t b = λ j. Some (sym t.0 j, r)
first_finds Two ns es r h t b = notes_finds ns r h b

each_as : (v : Version) (ns : List LoggedNote) (es : List LoggedEntry) → AreLogged es → TellsAs v ns es → Each (IsEntryAs v) es
each_as One ns es h t = each_untold es h t.1
each_as Two ns es h t = each_logged es h

entries_end : (v : Version) (i : ℕ) (es : List LoggedEntry) (r : List ℕ) → Ends r → Ends (texts (entry_text v) i es ++ r)
entries_end v i [] r h = h
entries_end v i (e ∷ es) r h = subst Ends (sym (append_assoc (entry_text v i e) (texts (entry_text v) (suc i) es) r)) (ends_as v i e (texts (entry_text v) (suc i) es ++ r))

-- what was found of them
pub record StepsFound (v : Version) (left : ℕ) (ns : List LoggedNote) (es : List LoggedEntry) (bs r : List ℕ) : Type 0 where
  pub behind : List ℕ
  pub notes : first_notes v bs ≡ Some (ns, behind)
  pub entries : entries v left 1 [] behind ≡ Some (es, r)

pub steps_finds : (v : Version) (left : ℕ) (ns : List LoggedNote) (es : List LoggedEntry) (r : List ℕ) → length es ≤ left → 1 + length es ≤ 2 ^ 32 → AreNotes ns → AreLogged es → TellsAs v ns es
    → begins (codes "step ") r ≡ false → Ends r → StepsFound v left ns es (flatten (steps_lines v ns es) ++ r) r
steps_finds v left ns es r few room n h t b c =
    let mid : List ℕ = texts (entry_text v) 1 es ++ r in
    record {
      behind = mid;
      notes = ap (λ z. first_notes v (z ++ r)) (steps_text v ns es) ∙ ap (first_notes v) (append_assoc (first_text v ns) (texts (entry_text v) 1 es) r)
          ∙ first_finds v ns es mid n t (entries_end v 1 es r c);
      entries = parts_finds_before (codes "step ") (entry_as v) itself (entry_text v) (IsEntryAs v) (2 ^ 32) Ends (starts_as v) (ends_as v) (finds_as v) left 1 [] es r few room (each_as v ns es h t) b c
          ∙ ap (λ z. Some (z, r)) (same es);
    }
