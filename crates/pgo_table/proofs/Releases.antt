-- A seat that has the journal out puts it back and releases its word.
use Rattle.std.proofs.Common.{◌≡◌, ℕ, ◌+◌, ◌*◌, ◌<◌, ◌≤◌, false, List, [], ◌∷◌, None, Some, length, sym, refl, ap, ◌∙◌, subst, arith}
use mathlib.Core.Option.{none}
use Rattle.atomic_table.specs.Table.{Me, step, Allows, rest}
use Rattle.pgo_journal.specs.Journal.{JournalView, with_entry, with_note}
use Rattle.pgo_model.specs.Log.{Effect}
use Rattle.pgo_model.specs.Machine.{Entry, Note}
use Rattle.pgo_workers.specs.View.{Shown, notes_of}
use Rattle.pgo_workers.specs.Worlds.{world_of, HasAll}
use Rattle.pgo_table.specs.SeatViews.{TableTerms, SeatView}
use Rattle.pgo_table.specs.Rule.{Kept, Proper}
use Rattle.pgo_table.specs.Steps as Steps
use Rattle.pgo_table.specs.Steps.{Slot, Opened, stepped_at, reads, wrote, noted, filled}
use Rattle.pgo_table.specs.SeatCalls.{world, Found, MayWrite}
use Rattle.pgo_table.specs.declared.slots.Stored.TheVariants.{Journal as AsJournal}
use Rattle.pgo_table.proofs.JournalSteps.{Kin, commits_keeps, notes_keeps, fills_keeps}
use Rattle.pgo_table.proofs.Logs.{length_append}

pub found_of : (v : SeatView) (j : JournalView) → Opened (world v) v j → Found v j.entries j.notes
found_of v j o = record {
  entries_more = o.entries_more;
  entries_are = o.entries_are;
  others = o.others;
  notes_more = o.notes_more;
  notes_are = o.notes_are;
  other_notes = o.other_notes;
  within_steps = o.within_steps;
  held = λ r h near at. o.held r h near at;
  own = o.own;
}

module _ {C : Type 0} where
  -- the seat with the journal in its slot again
  pub laid : (count : ℕ) (v : SeatView) (s0 : List (ℕ × Slot C)) (j' : JournalView) (m1 m3 : Me (Slot C) SeatView) → m1 ≡ (v, (count, None) ∷ s0) → m3 ≡ (m1.0, (count, Some (AsJournal j')) ∷ rest m1.1) → m3 ≡ (v, (count, Some (AsJournal j')) ∷ s0)
  laid count v s0 j' m1 m3 a b = b ∙ ap (λ (m : Me (Slot C) SeatView). (m.0, (count, Some (AsJournal j')) ∷ rest m.1)) a

module _ {C : Type 0} (M : C → Shown) (key : TableTerms) (p : Proper world_of HasAll key) (slots id count : ℕ) (at : count ≡ length key.layout.resources) where
  kin : (v : SeatView) (n : ℕ) (j j' : JournalView) → Opened (world v) v j → j'.start ≡ j.start → j'.steps ≡ j.steps → j'.room ≡ j.room → Kin world_of HasAll M (stepped_at count n 0 (v.me.number + 1) (reads v j.entries j.notes)) j'
  kin v n j j' o start steps room = record {
    start = start ∙ o.is_journal.start;
    steps = steps ∙ o.is_journal.steps;
    room = let r = o.is_journal.room in subst (λ n. v.terms.share * (world v).instances ≤ n) (sym room) r;
  }

  pub commit_at : (v : SeatView) (n : ℕ) (s0 : List (ℕ × Slot C)) (j j' : JournalView) (e : Entry Effect) (m : Me (Slot C) SeatView) → v.gone ≡ false → Opened (world v) v j → MayWrite v e → j' ≡ with_entry e j → (length j.entries ≡ j.steps → ⊥) → m ≡ (stepped_at count n 0 (v.me.number + 1) (reads v j.entries j.notes), (count, Some (AsJournal j')) ∷ s0)
      → Allows (Kept (world_of key.layout) M key) slots id m count (λ _. 0) (λ _. Steps.commits world_of (step slots count 0 0 none) m 0)
  commit_at v n s0 j j' e m live o may is room_left lies =
      subst (λ (x : Me (Slot C) SeatView). Allows (Kept (world_of key.layout) M key) slots id x count (λ _. 0) (λ _. Steps.commits world_of (step slots count 0 0 none) x 0)) (sym lies)
      (commits_keeps world_of HasAll M key p slots id (stepped_at count n 0 (v.me.number + 1) (reads v j.entries j.notes)) j' e s0 count at live refl may.0 may.1 may.2
      (kin v n j j' o (ap (λ (z : JournalView). z.start) is) (ap (λ (z : JournalView). z.steps) is) (ap (λ (z : JournalView). z.room) is))
      (ap (λ (z : JournalView). z.entries) is) (ap (λ (z : JournalView). z.notes) is)
      (fits (length j.entries) (length j'.entries) (ap (λ (z : JournalView). length z.entries) is ∙ length_append j.entries (e ∷ [])) o.within_steps (λ q. room_left (q ∙ sym o.is_journal.steps))))
    where
      fits : (a b : ℕ) → b ≡ a + 1 → a ≤ v.terms.steps → (a ≡ v.terms.steps → ⊥) → b ≤ v.terms.steps
      fits a b e h ne = omega (arith, e, h, ne)

  pub committed : (v : SeatView) (n : ℕ) (s0 : List (ℕ × Slot C)) (j j' : JournalView) (e : Entry Effect) (m m' : Me (Slot C) SeatView) → j' ≡ with_entry e j → m ≡ (stepped_at count n 0 (v.me.number + 1) (reads v j.entries j.notes), (count, Some (AsJournal j')) ∷ s0) → Steps.commits {C = C} world_of (step slots count 0 0 none) m 0 m'
      → (k : ℕ) × (m' ≡ (stepped_at count k (v.me.number + 1) 0 (wrote (world v) (stepped_at count n 0 (v.me.number + 1) (reads v j.entries j.notes)) e), s0))
  committed v n s0 j j' e m m' is lies told = let q = subst (λ (x : Me (Slot C) SeatView). Steps.commits {C = C} world_of (step slots count 0 0 none) x 0 m') lies told in (q.0, q.1 j' e refl (ap (λ (z : JournalView). z.entries) is))

  pub fill_at : (v : SeatView) (n : ℕ) (s0 : List (ℕ × Slot C)) (j j' : JournalView) (m : Me (Slot C) SeatView) → v.gone ≡ false → Opened (world v) v j → j' ≡ j → m ≡ (stepped_at count n 0 (v.me.number + 1) (reads v j.entries j.notes), (count, Some (AsJournal j')) ∷ s0)
      → Allows (Kept (world_of key.layout) M key) slots id m count (λ _. 0) (λ _. Steps.fills world_of (step slots count 0 0 none) m 0)
  fill_at v n s0 j j' m live o is lies =
      subst (λ (x : Me (Slot C) SeatView). Allows (Kept (world_of key.layout) M key) slots id x count (λ _. 0) (λ _. Steps.fills world_of (step slots count 0 0 none) x 0)) (sym lies)
      (fills_keeps world_of HasAll M key p slots id (stepped_at count n 0 (v.me.number + 1) (reads v j.entries j.notes)) j' s0 count at live refl
      (kin v n j j' o (ap (λ (z : JournalView). z.start) is) (ap (λ (z : JournalView). z.steps) is) (ap (λ (z : JournalView). z.room) is))
      (ap (λ (z : JournalView). z.entries) is) (ap (λ (z : JournalView). z.notes) is))

  pub filled_up : (v : SeatView) (n : ℕ) (s0 : List (ℕ × Slot C)) (es : List (Entry Effect)) (ns : List Note) (j' : JournalView) (m m' : Me (Slot C) SeatView) → m ≡ (stepped_at count n 0 (v.me.number + 1) (reads v es ns), (count, Some (AsJournal j')) ∷ s0) → Steps.fills {C = C} world_of (step slots count 0 0 none) m 0 m'
      → (k : ℕ) × (m' ≡ (stepped_at count k (v.me.number + 1) 0 (filled (stepped_at count n 0 (v.me.number + 1) (reads v es ns)) v.terms.steps), s0))
  filled_up v n s0 es ns j' m m' lies told = subst (λ (x : Me (Slot C) SeatView). Steps.fills {C = C} world_of (step slots count 0 0 none) x 0 m') lies told

  pub note_at : (v : SeatView) (n : ℕ) (s0 : List (ℕ × Slot C)) (j j' : JournalView) (x : Note) (m : Me (Slot C) SeatView) → v.gone ≡ false → Opened (world v) v j → x.instance ≡ v.me.number → notes_of v.me.number j.notes < v.terms.share → j' ≡ with_note x j → m ≡ (stepped_at count n 0 (v.me.number + 1) (reads v j.entries j.notes), (count, Some (AsJournal j')) ∷ s0)
      → Allows (Kept (world_of key.layout) M key) slots id m count (λ _. 0) (λ _. Steps.notes world_of (step slots count 0 0 none) m 0)
  note_at v n s0 j j' x m live o by left is lies =
      subst (λ (z : Me (Slot C) SeatView). Allows (Kept (world_of key.layout) M key) slots id z count (λ _. 0) (λ _. Steps.notes world_of (step slots count 0 0 none) z 0)) (sym lies)
      (notes_keeps world_of HasAll M key p slots id (stepped_at count n 0 (v.me.number + 1) (reads v j.entries j.notes)) j' x s0 count at live refl by left
      (kin v n j j' o (ap (λ (z : JournalView). z.start) is) (ap (λ (z : JournalView). z.steps) is) (ap (λ (z : JournalView). z.room) is))
      (ap (λ (z : JournalView). z.entries) is) (ap (λ (z : JournalView). z.notes) is))

  pub noted_one : (v : SeatView) (n : ℕ) (s0 : List (ℕ × Slot C)) (j j' : JournalView) (x : Note) (m m' : Me (Slot C) SeatView) → j' ≡ with_note x j → m ≡ (stepped_at count n 0 (v.me.number + 1) (reads v j.entries j.notes), (count, Some (AsJournal j')) ∷ s0) → Steps.notes {C = C} world_of (step slots count 0 0 none) m 0 m'
      → (k : ℕ) × (m' ≡ (stepped_at count k (v.me.number + 1) 0 (noted (stepped_at count n 0 (v.me.number + 1) (reads v j.entries j.notes)) x), s0))
  noted_one v n s0 j j' x m m' is lies told = let q = subst (λ (z : Me (Slot C) SeatView). Steps.notes {C = C} world_of (step slots count 0 0 none) z 0 m') lies told in (q.0, q.1 j' x refl (ap (λ (z : JournalView). z.notes) is))
