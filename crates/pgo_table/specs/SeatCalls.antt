-- What the calls of a seat leave, in what the table knows of it.
use Rattle.std.specs.Prelude.{◌≡◌, ◌≢◌, ℕ, zero, suc, ◌<◌, ◌≤◌, ◌⊎◌, ◌+◌, true, List, [], ◌∷◌, ◌++◌, length, None, Some, Result, Ok, Err}
use Rattle.atomic_table.specs.Table.{turned}
use Rattle.pgo_base.specs.Data.{Data}
use Rattle.pgo_base.specs.Lookup.{Vars}
use Rattle.pgo_journal.specs.Journal.{placed}
use Rattle.pgo_model.specs.Accounts.{journal}
use Rattle.pgo_model.specs.Log.{Effect}
use Rattle.pgo_model.specs.Machine.{Entry, Note}
use Rattle.pgo_syntax.specs.declared.records.Refusal.{Refusal}
use Rattle.pgo_syntax.specs.declared.records.Refusal.TheVariants as refusals
use Rattle.pgo_workers.specs.View.{Shown, IsHeld, World, Others, OtherNotes, changed}
use Rattle.pgo_workers.specs.Worlds.{world_of}
use Rattle.pgo_table.specs.SeatViews.{Holding, WordStep, SeatView, holding_at}
use Rattle.pgo_table.specs.Rule.{behind}
use Rattle.pgo_table.specs.Steps.{Slot, TakeStep, own_known, stepped_at, took, take_refused, reads, wrote, noted, filled, told_refusal, gave}

abbrev pub world : SeatView → World Vars Effect
world v = world_of v.terms.layout

-- how many resources there are
abbrev pub many : SeatView → ℕ
many v = length v.terms.layout.resources

-- a slot whose content is out
abbrev pub empty_slot : {C : Type 0} → ℕ → ℕ × Slot C
empty_slot r = (r, None)

-- the first n go behind the others
abbrev pub turned_by : {A : Type 0} → ℕ → List (ℕ × A) → List (ℕ × A)
turned_by zero xs = xs
turned_by (suc n) xs = turned_by n (turned xs)

-- another instance
abbrev pub IsOther : SeatView → ℕ → Type 0
IsOther v h = (h < (world v).instances) × (h ≢ v.me.number)

-- a content came with r, at its base, with r's number or none
abbrev pub TookWith : {C : Type 0} → (C → Shown) → SeatView → ℕ → C → SeatView → Type 0
TookWith M v r c w = (number : ℕ) × (w ≡ stepped_at r number 0 (v.me.number + 1) (took (world v) v r (M c).base (M c).count)) × ((M c).current ≡ (M c).base) × (((M c).number ≡ None) ⊎ ((M c).number ≡ Some r))

abbrev pub TakeRefused : SeatView → ℕ → ℕ → SeatView → Type 0
TakeRefused v r h w = (number : ℕ) × IsOther v h × (w ≡ stepped_at r number (h + 1) (h + 1) (take_refused (world v) v r h))

-- the seat holds r, and the content is as its value says, but that it may have counted on
abbrev pub MayReturn : {C : Type 0} → (C → Shown) → SeatView → ℕ → C → Type 0
MayReturn M v r c = (h : Holding) × (holding_at v.holds r ≡ Some h) × ((M c).base ≡ h.value) × ((M c).current ≡ h.value) × (h.count ≤ (M c).count) × (((M c).number ≡ None) ⊎ ((M c).number ≡ Some r))

abbrev pub Returned : {C : Type 0} → (C → Shown) → SeatView → ℕ → C → SeatView → Type 0
Returned M v r c w = (number : ℕ) × ((h : Holding) → holding_at v.holds r ≡ Some h → w ≡ stepped_at r number (v.me.number + 1) 0 (gave v r h.count (M c).count))

-- the journal as the seat found it: it goes on by others from what the seat has seen, and what the seat holds, and its own components, are as it leaves them
pub record Found (v : SeatView) (es : List (Entry Effect)) (ns : List Note) : Type 0 where
  pub entries_more : List (Entry Effect)
  pub entries_are : es ≡ v.me.entries ++ entries_more
  pub others : Others v.me.number entries_more
  pub notes_more : List Note
  pub notes_are : ns ≡ v.me.notes ++ notes_more
  pub other_notes : OtherNotes v.me.number notes_more
  pub within_steps : length es ≤ v.terms.steps
  pub held : (r : ℕ) (h : Holding) → r < many v → holding_at v.holds r ≡ Some h → (world v).value (behind (world v) es) r ≡ h.value
  pub own : (world v).own (behind (world v) es) v.me.number ≡ own_known (world v) v

-- the seat with the journal, at a step that found its word free
abbrev pub opened_at : SeatView → ℕ → List (Entry Effect) → List Note → SeatView
opened_at v number es ns = stepped_at (many v) number 0 (v.me.number + 1) (reads v es ns)

-- the seat without it, at a step that left its word free
abbrev pub released_at : SeatView → ℕ → SeatView → SeatView
released_at v number w = stepped_at (many v) number (v.me.number + 1) 0 w

pub record Committed (v : SeatView) (e : Entry Effect) (n : ℕ) (w : SeatView) : Type 0 where
  pub entries : List (Entry Effect)
  pub notes : List Note
  pub opened : ℕ
  pub released : ℕ
  pub found : Found v entries notes
  pub number : n ≡ suc (length entries)
  pub room : suc (length entries) ≤ v.terms.steps
  pub view : w ≡ released_at v released (wrote (world v) (opened_at v opened entries notes) e)

pub record WasFull (v : SeatView) (n : ℕ) (w : SeatView) : Type 0 where
  pub entries : List (Entry Effect)
  pub notes : List Note
  pub opened : ℕ
  pub released : ℕ
  pub found : Found v entries notes
  pub number : n ≡ v.terms.steps
  pub full : length entries ≡ v.terms.steps
  pub view : w ≡ released_at v released (filled (opened_at v opened entries notes) v.terms.steps)

pub record Added (v : SeatView) (x : Note) (p : ℕ) (w : SeatView) : Type 0 where
  pub entries : List (Entry Effect)
  pub notes : List Note
  pub opened : ℕ
  pub released : ℕ
  pub found : Found v entries notes
  pub position : p ≡ length entries
  pub view : w ≡ released_at v released (noted (opened_at v opened entries notes) (placed p x))

abbrev pub JournalRefused : SeatView → ℕ → SeatView → Type 0
JournalRefused v h w = (number : ℕ) × IsOther v h × (w ≡ stepped_at (many v) number (h + 1) (h + 1) (told_refusal v (IsHeld journal h)))

-- ---- steps at words

-- one step at a word, and one that took it and one that released it, by instance k
abbrev pub OneStep : ℕ → ℕ → ℕ → List WordStep → List WordStep → Type 0
OneStep i found left before after = (number : ℕ) × (after ≡ before ++ record { word = i; number = number; found = found; left = left } ∷ [])

abbrev pub TwoSteps : ℕ → ℕ → List WordStep → List WordStep → Type 0
TwoSteps i k before after = (number : ℕ) × (later : ℕ) × (after ≡ (before ++ record { word = i; number = number; found = 0; left = k + 1 } ∷ []) ++ record { word = i; number = later; found = k + 1; left = 0 } ∷ [])

-- a take is one step at r's word: it comes upon `found` and leaves `left`, and these say what it answers
pub record TakenAt {S C : Type 0} (W : World S Effect) (M : C → Shown) (v : SeatView) (r : ℕ) (before after : List WordStep) (Answer : (found left : ℕ) → Type 0) : Type 0 where
  pub number : ℕ
  pub found : ℕ
  pub left : ℕ
  pub step : TakeStep W M v r number found
  pub made : after ≡ before ++ record { word = r; number = number; found = found; left = left } ∷ []
  pub answer : Answer found left

-- Ok where 0 was found, and h where h + 1 was
abbrev pub BySeat : {C : Type 0} → ℕ → Result C ℕ → (found left : ℕ) → Type 0
BySeat k (Ok c) found left = (found ≡ 0) × (left ≡ k + 1)
BySeat k (Err h) found left = (found ≡ h + 1) × (left ≡ found)

-- Ok where 0 was found, and Held by h where h + 1 was
abbrev pub ByBoard : ℕ → ℕ → Result Unit Refusal → (found left : ℕ) → Type 0
ByBoard k r (Ok u) found left = (found ≡ 0) × (left ≡ k + 1)
ByBoard k r (Err x) found left = (h : ℕ) × (x ≡ refusals.Held r h) × (found ≡ h + 1) × (left ≡ found)

-- at the journal's word: one step where another instance has it, and else two
abbrev pub RefusalSteps : ℕ → ℕ → Refusal → List WordStep → List WordStep → Type 0
RefusalSteps i k (refusals.Held q h) before after = OneStep i (h + 1) (h + 1) before after
RefusalSteps i k (refusals.Down q o) before after = ⊥
RefusalSteps i k (refusals.Many leaves at) before after = ⊥
RefusalSteps i k (refusals.Full n) before after = TwoSteps i k before after

-- the seat may write this entry
abbrev pub MayWrite : SeatView → Entry Effect → Type 0
MayWrite v e = (e.instance ≡ v.me.number) × ((world v).is_of e.instance e.change ≡ true) × ((r : ℕ) (x : Data) → holding_at v.holds r ≡ None → changed ((world v).changes e.change) r x ≡ x)

abbrev pub CommitRefused : Refusal → SeatView → SeatView → Type 0
CommitRefused (refusals.Held q h) v w = (q ≡ journal) × JournalRefused v h w
CommitRefused (refusals.Down q o) v w = ⊥
CommitRefused (refusals.Many leaves at) v w = ⊥
CommitRefused (refusals.Full n) v w = WasFull v n w

abbrev pub NoteRefused : Refusal → SeatView → SeatView → Type 0
NoteRefused (refusals.Held q h) v w = (q ≡ journal) × JournalRefused v h w
NoteRefused (refusals.Down q o) v w = ⊥
NoteRefused (refusals.Many leaves at) v w = ⊥
NoteRefused (refusals.Full n) v w = ⊥
