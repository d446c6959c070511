-- The entries of a run, one behind the other, and those of its log.
use Rattle.std.specs.Borrow.{Bor}
use Rattle.std.proofs.Common.{◌≡◌, ◌≤◌, ◌<◌, ◌+◌, ◌-◌, ℕ, zero, suc, List, [], ◌∷◌, ◌++◌, length, map, drop, Option, Some, refl, ap, sym, ◌∙◌, append_assoc, add-one, arith}
use Rattle.std.specs.Prelude.{codes, decimal}
use Rattle.std.proofs.lemmas.List.{length-map}
use Rattle.pgo_base.specs.Data.{Data}
use Rattle.pgo_base.specs.declared.log.Entry as base_entry
use Rattle.pgo_base.specs.declared.value.Value.{Value}
use Rattle.pgo_model.specs.Bundle.{fields, change_line}
use Rattle.pgo_model.specs.Log.{Change, Effect}
use Rattle.pgo_model.specs.LogView.{entry_view}
use Rattle.pgo_model.specs.Machine.{Entry, Note, nth}
use Rattle.pgo_model.specs.ModuleText.{Line, line, flatten}
use Rattle.pgo_bundle.specs.declared.log.LoggedNote as base_note
use Rattle.pgo_bundle.specs.BundleLog.{LoggedNote, LoggedEntry}
use Rattle.pgo_bundle.specs.Lines.{prints_count, prints_lines, note_line, logged_lines, all_logged_lines}
use Rattle.pgo_bundle.specs.Noted.{place_of}
use Rattle.pgo_bundle.specs.Positions.{by_position}
use Rattle.pgo_bundle.specs.RunLog.{unowned, entry_read, told_prints, notes_at, logged_from}
use Rattle.pgo_bundle.specs.View.{logged_note_view}
use Rattle.pgo_bundle.proofs.MigratedLaws.{place_is}
use Rattle.pgo_journal.specs.Journal.{JournalView}
use Rattle.pgo_module_write.proofs.Joins.{flatten_more}
use Rattle.pgo_log_write.specs.JournalRows.{notes_of}
use Rattle.pgo_log_write.specs.RunRows.{run_entry, run_entries}
use Rattle.pgo_log_write.specs.Told.{told_view, logged_view}

-- lines behind what was written, with those of the rest
lines_step : (a b whole : List ℕ) (ls more all : List Line) → b ≡ a ++ flatten ls → all ≡ ls ++ more → a ++ flatten all ≡ whole → b ++ flatten more ≡ whole
lines_step a b whole ls more all e h k =
    ap (λ t. t ++ flatten more) e ∙ append_assoc a (flatten ls) (flatten more) ∙ ap (λ t. a ++ t) (sym (flatten_more ls more) ∙ sym (ap flatten h)) ∙ k

nth_drop : {A : Type 0} (xs : List A) (i : ℕ) (x : A) → nth xs i ≡ Some x → drop i xs ≡ x ∷ drop (suc i) xs
nth_drop [] i x e = absurd (cc)
nth_drop (y ∷ xs) zero x e = let s : y ≡ x = cc in ap (λ z. z ∷ xs) s
nth_drop (y ∷ xs) (suc i) x e = nth_drop xs i x e

pub entry_made : (t : List (List LoggedNote)) (n : ℕ) (e : base_entry.Entry) (prints : Option (Bor (List Value))) (ns : List base_note.LoggedNote)
    → told_view prints ≡ told_prints e.prints → map logged_note_view ns ≡ place_of n t → logged_view e prints ns ≡ run_entry n t (entry_view e)
entry_made t n e prints ns h g = λ j. record { entry = entry_view e; prints = h j; notes = g j }

-- a loop over entries
pub run_step : (t : List (List LoggedNote)) (es : List (Entry Effect)) (i n : ℕ) (e : Entry Effect) (d : LoggedEntry) (a b whole : List ℕ) → n ≡ i + 1 → nth es (n - 1) ≡ Some e → d ≡ run_entry n t e
    → b ≡ a ++ flatten (logged_lines n d) → a ++ flatten (all_logged_lines (suc i) (run_entries (suc i) t (drop i es))) ≡ whole
    → b ++ flatten (all_logged_lines (suc (i + 1)) (run_entries (suc (i + 1)) t (drop (i + 1) es))) ≡ whole
run_step t es i n e d a b whole number is made g k =
    let before : n - 1 ≡ i = omega (arith, number) in
    let next : n ≡ suc i = omega (arith, number) in
    lines_step a b whole (logged_lines n d) (all_logged_lines (suc (i + 1)) (run_entries (suc (i + 1)) t (drop (i + 1) es))) _ g
    (ap (λ l. all_logged_lines (suc i) (run_entries (suc i) t l)) (nth_drop es i e (ap (nth es) (sym before) ∙ is))
    ∙ (λ j. logged_lines (sym next j) (run_entry (sym next j) t e) ++ all_logged_lines (suc (sym (add-one i) j)) (run_entries (suc (sym (add-one i) j)) t (drop (sym (add-one i) j) es)))
    ∙ ap (λ x. logged_lines n x ++ all_logged_lines (suc (i + 1)) (run_entries (suc (i + 1)) t (drop (i + 1) es))) (sym made))
    k

-- ---- the log of a run

change_lines : (cs : List Change) → map change_line (map unowned cs) ≡ map change_line cs
change_lines [] = refl
change_lines (c ∷ cs) = ap (λ ls. change_line c ∷ ls) (change_lines cs)

-- an entry has the same lines, whose components are named or not
same_lines : (n : ℕ) (e : Entry Effect) (o : Option (List Data)) (ns ms : List LoggedNote) → ns ≡ ms
    → logged_lines n (record { entry = e; prints = o; notes = ns }) ≡ logged_lines n (record { entry = entry_read e; prints = o; notes = ms })
same_lines n e o ns ms same =
    let count = length-map e.change.changes unowned in
    let rest = change_lines e.change.changes in
    λ i. line (fields (codes "step" ∷ decimal n ∷ decimal e.instance ∷ decimal e.attempt ∷ e.change.label ∷ e.change.next ∷ decimal (sym count i) ∷ prints_count o ∷ []))
    ∷ (sym rest i ++ (prints_lines o ++ map note_line (same i)))

pub rows_are : (i k : ℕ) (ns : List Note) (es : List (Entry Effect)) → i + length es ≤ k → all_logged_lines i (run_entries i (by_position 0 k ns) es) ≡ all_logged_lines i (logged_from i ns es)
rows_are i k ns [] h = refl
rows_are i k ns (e ∷ es) h =
    let below : i < k = omega (arith, h) in
    let fits : suc i + length es ≤ k = omega (arith, h) in
    let same : place_of i (by_position 0 k ns) ≡ notes_at i ns = place_is i 0 k ns below ∙ ap (λ q. notes_at q ns) (let same : 0 + i ≡ i = omega arith in same) in
    let first = same_lines i e (told_prints e.change.prints) (place_of i (by_position 0 k ns)) (notes_at i ns) same in
    let rest = rows_are (suc i) k ns es fits in
    λ j. first j ++ rest j

pub many_logged : (i : ℕ) (ns : List Note) (es : List (Entry Effect)) → length es ≡ length (logged_from i ns es)
many_logged i ns [] = refl
many_logged i ns (e ∷ es) = ap suc (many_logged (suc i) ns es)

-- what a journal writes of its notes and entries is what the log of its run says
pub table_same : (j : JournalView) (es : List (Entry Effect)) (ns : List Note) → j.entries ≡ es → j.notes ≡ ns
    → ◌≡◌ {A = List Line × List Line} (map note_line (place_of 0 (notes_of j)), all_logged_lines 1 (run_entries 1 (notes_of j) j.entries))
    (map note_line (notes_at 0 ns), all_logged_lines 1 (logged_from 1 ns es))
table_same j es ns e n =
    let k : ℕ = suc (length es) in
    let table : notes_of j ≡ by_position 0 k ns = λ i. by_position 0 (suc (length (e i))) (n i) in
    let fits : 1 + length es ≤ k = omega arith in
    λ i. (map note_line (place_of 0 (table i)), ((λ m. all_logged_lines 1 (run_entries 1 (table m) (e m))) ∙ rows_are 1 k ns es fits) i)
