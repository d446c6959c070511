-- What the seats say together of the closed journal.
use Rattle.std.specs.Prelude.{◌≡◌, ◌≢◌, ℕ, ◌<◌, ◌≤◌, ◌⊎◌, List, [], ◌∷◌, ◌++◌, Some, length}
use mathlib.Core.Option as Found
use lib.ListN.{get_elem?}
use Rattle.pgo_journal.specs.Journal.{JournalView}
use Rattle.pgo_model.specs.Accounts.{journal}
use Rattle.pgo_model.specs.Log.{Effect}
use Rattle.pgo_model.specs.Machine.{Entry, Note, nth}
use Rattle.pgo_workers.specs.Closed.{Has}
use Rattle.pgo_workers.specs.View.{IsHeld, World}
use Rattle.pgo_table.specs.SeatViews.{History, TableTerms, total, numbered, stands, cap}
use Rattle.pgo_table.specs.Steps.{Slot}
use Rattle.pgo_table.specs.declared.slots.Stored.TheVariants.{Content, Journal as AsJournal}
use Rattle.pgo_table.specs.Rule.{TookOk, HasEntryOf, HasNoteOf, ToldFull, Follows, AllOf}

pub record IsClosed {S : Type 0} (W : World S Effect) (y : TableTerms) (entries : List (Entry Effect)) (notes : List Note) (seats : List History) : Type 0 where
  pub room : length entries ≤ y.steps
  pub all_of : AllOf W entries
  pub entries_numbered : (p : ℕ) (e : Entry Effect) → nth entries p ≡ Some e → e.instance < W.instances
  pub notes_numbered : (p : ℕ) (n : Note) → nth notes p ≡ Some n → n.instance < W.instances
  -- the journal begins with what each has seen, and has no other record of it; and each answered take agrees with one of its states
  pub follows : (a : History) → Has seats a → Follows W y.share entries notes a
  -- they are those of all instances
  pub numbers : (x : ℕ) → numbered x seats ≤ cap W.instances x
  pub as_many : length seats ≡ W.instances
  -- a refusal names one that took the resource, or reached the journal
  pub holder : (a : History) (r h : ℕ) → Has seats a → Has a.told.refused (IsHeld r h) → r ≢ journal → (b : History) × Has seats b × (b.number ≡ h) × TookOk r b
  pub journal_holder : (a : History) (h : ℕ) → Has seats a → Has a.told.refused (IsHeld journal h) → HasEntryOf h entries ⊎ (HasNoteOf h notes ⊎ ((b : History) × Has seats b × (b.number ≡ h) × ToldFull b))
  -- no pre-commit is passed twice
  pub once : (r n : ℕ) → total (λ (a : History). stands r n a.told.passed) seats ≤ 1

-- the seats passed no pre-commit of r above this number
abbrev pub PassedUpTo : List History → ℕ → ℕ → Type 0
PassedUpTo seats r most = (n : ℕ) → most < n → total (λ (a : History). stands r n a.told.passed) seats ≡ 0

-- ---- what comes out of the slots

abbrev pub IsContentAt : {C : Type 0} → Slot C → C → Type 0
IsContentAt o c = o ≡ Some (Content c)

abbrev pub IsContent : {C : Type 0} → Slot C → Type 0
IsContent {C} o = (c : C) × IsContentAt o c

abbrev pub IsJournalAt : {C : Type 0} → Slot C → JournalView → Type 0
IsJournalAt o j = o ≡ Some (AsJournal j)

abbrev pub IsJournalIn : {C : Type 0} → Slot C → Type 0
IsJournalIn o = (j : JournalView) × IsJournalAt o j

abbrev pub ContentAt : {C : Type 0} → List (Slot C) → ℕ → C → Type 0
ContentAt xs r c = get_elem? xs r ≡ Found.some (Some (Content c))

abbrev pub JournalAt : {C : Type 0} → List (Slot C) → ℕ → JournalView → Type 0
JournalAt xs r j = get_elem? xs r ≡ Found.some (Some (AsJournal j))

abbrev pub turned_round : {A : Type 0} → List A → List A
turned_round [] = []
turned_round (x ∷ xs) = turned_round xs ++ x ∷ []
