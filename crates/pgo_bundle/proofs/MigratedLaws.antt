-- A log that is brought over is checked as it was, and its lines in version 1 stand where they stood.
use Rattle.std.proofs.Common.{◌≡◌, ◌≤◌, ◌<◌, ◌+◌, ℕ, zero, suc, ◌&&◌, if◌then◌else◌, List, [], ◌∷◌, length, map, take, Option, Some, None, refl, ap, sym, ◌∙◌, arith}
use Rattle.pgo_model.specs.Machine.{Note, nth}
use Rattle.pgo_model.specs.Options.{on}
use Rattle.pgo_bundle.specs.BundleLog.{Version, One, LoggedEntry, BundleLog, checked_log}
use Rattle.pgo_bundle.specs.Migrated.{migrated_from, all_told, migrated}
use Rattle.pgo_bundle.specs.Noted.{noted, place_of, placed_from}
use Rattle.pgo_bundle.specs.Places.{own_size, notes_size, entries_size, accounts_size, lines_before, AtRecord, AtEntry, AtNote}
use Rattle.pgo_bundle.specs.Positions.{by_position}
use Rattle.pgo_bundle.specs.RunLog.{notes_at}
use Rattle.pgo_bundle.specs.Untied.{AttemptLine, Account, Untied, claim_of, says_so, follows, last_with, most_with, broken_from, or_else, at_record, broken_records, unnamed_entry, unnamed_note, untied_at}

entries_same : (i : ℕ) (ns : List Note) (es : List LoggedEntry) → map (λ e. e.entry) (migrated_from i ns es) ≡ map (λ e. e.entry) es
entries_same i ns [] = refl
entries_same i ns (e ∷ es) = ap (λ z. e.entry ∷ z) (entries_same (suc i) ns es)

pub checked_same : (l : BundleLog) → checked_log (migrated l) ≡ checked_log l
checked_same l =
    let same = entries_same 1 (all_told 0 l.accounts) l.entries in
    λ j. record { ids = map (λ a. a.id) l.accounts; start = l.start; entries = same j }

-- ---- places of notes

-- the list at a place among those of each position
pub place_is : (i p k : ℕ) (ns : List Note) → i < k → place_of i (by_position p k ns) ≡ notes_at (p + i) ns
place_is i p zero ns h = absurd (omega (arith, h))
place_is zero p (suc k) ns h = let same : p ≡ p + 0 = omega arith in ap (λ q. notes_at q ns) same
place_is (suc i) p (suc k) ns h =
    let same : suc p + i ≡ p + suc i = omega arith in
    place_is i (suc p) k ns (omega (arith, h)) ∙ ap (λ q. notes_at q ns) same

pub first_is : (k : ℕ) (ns : List Note) → place_of 0 (by_position 0 (suc k) ns) ≡ notes_at 0 ns
first_is k ns = refl

pub placed_is : (i k : ℕ) (ns : List Note) (es : List LoggedEntry) → i + length es ≤ k → placed_from i (by_position 0 k ns) es ≡ migrated_from i ns es
placed_is i k ns [] h = refl
placed_is i k ns (e ∷ es) h =
    let below : i < k = omega (arith, h) in
    let fits : suc i + length es ≤ k = omega (arith, h) in
    let first : place_of i (by_position 0 k ns) ≡ notes_at i ns = place_is i 0 k ns below ∙ ap (λ q. notes_at q ns) (let same : 0 + i ≡ i = omega arith in same) in
    let rest = placed_is (suc i) k ns es fits in
    λ j. record { entry = e.entry; prints = None; notes = first j } ∷ rest j

-- ---- lines of version 1

sizes_same : (i n : ℕ) (ns : List Note) (es : List LoggedEntry) → entries_size One (take n (migrated_from i ns es)) ≡ entries_size One (take n es)
sizes_same i zero ns es = refl
sizes_same i (suc n) ns [] = refl
sizes_same i (suc n) ns (e ∷ es) = ap (λ z. own_size One e + 0 + z) (sizes_same (suc i) n ns es)

all_same : (i : ℕ) (ns : List Note) (es : List LoggedEntry) → entries_size One (migrated_from i ns es) ≡ entries_size One es
all_same i ns [] = refl
all_same i ns (e ∷ es) = ap (λ z. own_size One e + 0 + z) (all_same (suc i) ns es)

own_same : (i p : ℕ) (ns : List Note) (es : List LoggedEntry) → on 0 (nth (migrated_from i ns es) p) (own_size One) ≡ on 0 (nth es p) (own_size One)
own_same i p ns [] = refl
own_same i zero ns (e ∷ es) = refl
own_same i (suc p) ns (e ∷ es) = own_same (suc i) p ns es

-- what stands before a place in the text of version 1
abbrev own_at : List LoggedEntry → (p : ℕ) → Version → ℕ
own_at es p v = on 0 (nth es p) (own_size v)

pub lines_same : (l : BundleLog) (u : Untied) → l.version ≡ One → lines_before (noted l) u ≡ lines_before l u
lines_same l (AtRecord k a) e =
    let s : ℕ = suc (length l.start) in
    let behind : ℕ = accounts_size (take k l.accounts) in
    (λ j. s + notes_size (e j) (noted l).notes + entries_size (e j) (noted l).entries + behind + a)
    ∙ ap (λ z. s + 0 + z + behind + a) (all_same 1 (all_told 0 l.accounts) l.entries)
    ∙ (λ j. s + notes_size (sym e j) l.notes + entries_size (sym e j) l.entries + behind + a)
lines_same l (AtEntry zero) e = refl
lines_same l (AtEntry (suc i)) e =
    let s : ℕ = suc (length l.start) in
    (λ j. s + notes_size (e j) (noted l).notes + entries_size (e j) (take i (noted l).entries))
    ∙ ap (λ z. s + 0 + z) (sizes_same 1 i (all_told 0 l.accounts) l.entries)
    ∙ (λ j. s + notes_size (sym e j) l.notes + entries_size (sym e j) (take i l.entries))
lines_same l (AtNote zero n) e = refl
lines_same l (AtNote (suc p) n) e =
    let s : ℕ = suc (length l.start) in
    let ns : List Note = all_told 0 l.accounts in
    (λ j. s + notes_size (e j) (noted l).notes + entries_size (e j) (take p (noted l).entries) + own_at (noted l).entries p (e j) + n)
    ∙ (λ j. s + 0 + sizes_same 1 p ns l.entries j + own_same 1 p ns l.entries j + n)
    ∙ (λ j. s + notes_size (sym e j) l.notes + entries_size (sym e j) (take p l.entries) + own_at l.entries p (sym e j) + n)

-- ---- what is told of its notes

broken_same : (l k : BundleLog) → ((i a : ℕ) → claim_of l i a ≡ claim_of k i a) → (i a last most : ℕ) (xs : List AttemptLine) → broken_from l i a last most xs ≡ broken_from k i a last most xs
broken_same l k h i a last most [] = refl
broken_same l k h i a last most (x ∷ xs) =
    λ j. if says_so (h i a j) x && follows last most x then broken_same l k h i (suc a) (last_with last x) (most_with most x) xs j else Some a

records_same : (l k : BundleLog) → ((i a : ℕ) → claim_of l i a ≡ claim_of k i a) → (i : ℕ) (cs : List Account) → broken_records l i cs ≡ broken_records k i cs
records_same l k h i [] = refl
records_same l k h i (c ∷ cs) = λ j. or_else (at_record i (broken_same l k h i 1 0 0 c.attempts j)) (records_same l k h (suc i) cs j)

-- it is tied in the one version where it is in the other
pub untied_same : (l : BundleLog) → untied_at (noted l) ≡ untied_at (migrated l)
untied_same l =
    let entry : Option Untied = unnamed_entry l.accounts 1 (migrated l).entries in
    let note : Option Untied = unnamed_note l.accounts (migrated l).notes (migrated l).entries in
    ap (λ z. or_else z (or_else entry note)) (records_same (noted l) (migrated l) (λ i a. refl) 0 l.accounts)
