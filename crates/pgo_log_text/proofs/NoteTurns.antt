-- The loop over notes. Each that is read has a byte, so that there are turns enough.
use Rattle.std.proofs.Common.{◌≡◌, ◌≤◌, ◌+◌, ◌-◌, ℕ, true, false, List, [], ◌∷◌, ◌++◌, length, decimal, Some, sym, ap, ◌∙◌, length-append, arith}
use Rattle.std.specs.Prelude.{codes}
use Rattle.pgo_model.specs.Bundle.{fields}
use Rattle.pgo_bundle.specs.Lines.{found_text, note_line}
use Rattle.pgo_log_text.specs.IsBundle.{LoggedNote}
use Rattle.pgo_log_text.specs.Parsers.{Outcome, and_then}
use Rattle.pgo_log_text.specs.Bytes.{begins}
use Rattle.pgo_log_text.specs.Lines.{parts, note, any_note}
use Rattle.pgo_log_text.proofs.LinesTold.{note_some}
use Rattle.pgo_log_text.proofs.Turns.{all_read, part_turn}

-- a note that was read had a byte
pub note_shorter : (bs : List ℕ) (n : LoggedNote) (r : List ℕ) → note bs ≡ Some (n, r) → length r + 1 ≤ length bs
note_shorter bs n r h =
    let read = note_some 0 bs n r h in
    let whole = ap length read.text_is in
    let joined = length-append (note_line read.part) r in
    let first = length-append (fields (codes "note" ∷ decimal read.part.instance ∷ decimal read.part.attempt ∷ found_text read.part.kind ∷ [])) (10 ∷ []) in
    omega (arith, whole, joined, first)

-- where one is next there is a byte
has_byte : (bs : List ℕ) → begins (codes "note ") bs ≡ true → 1 ≤ length bs
has_byte [] b = let h : false ≡ true = b in absurd (cc)
has_byte (x ∷ bs) b = omega arith

abbrev left_notes : (left at : ℕ) → List LoggedNote → List ℕ → Outcome (List LoggedNote)
left_notes left at done bs = parts (codes "note ") any_note left at done bs

-- one more is next
pub note_turn : {x : Outcome (List LoggedNote)} {most : ℕ} (at : ℕ) (done : List LoggedNote) (bs : List ℕ) → length bs + at ≤ most → x ≡ left_notes (most - at) at done bs → begins (codes "note ") bs ≡ true
    → x ≡ and_then (note bs) (λ n. left_notes (most - (at + 1)) (at + 1) (done ++ n ∷ []))
note_turn {x} {most} at done bs fits e b =
    let byte = has_byte bs b in
    part_turn (codes "note ") any_note most at at done bs e b (omega (arith, fits, byte))

-- it was read
pub note_read : {x : Outcome (List LoggedNote)} {most : ℕ} (at next : ℕ) (done all : List LoggedNote) (n : LoggedNote) (bs r : List ℕ) → length bs + at ≤ most → x ≡ left_notes (most - at) at done bs
    → begins (codes "note ") bs ≡ true → note bs ≡ Some (n, r) → next ≡ at + 1 → all ≡ done ++ n ∷ [] → (x ≡ left_notes (most - next) next all r) × (length r + next ≤ most)
note_read {x} {most} at next done all n bs r fits e b read count is =
    let turn = note_turn at done bs fits e b ∙ ap (λ o. and_then o (λ k. left_notes (most - (at + 1)) (at + 1) (done ++ k ∷ []))) read in
    let shorter = note_shorter bs n r read in
    (turn ∙ (λ i. left_notes (most - sym count i) (sym count i) (sym is i) r), omega (arith, fits, shorter, count))

-- none is next
pub notes_end : {x : Outcome (List LoggedNote)} {most : ℕ} (at : ℕ) (done : List LoggedNote) (bs : List ℕ) → length bs + at ≤ most → x ≡ left_notes (most - at) at done bs → begins (codes "note ") bs ≡ false
    → x ≡ Some (done, bs)
notes_end {x} {most} at done bs fits e b = e ∙ all_read (codes "note ") any_note (most - at) at done bs b
