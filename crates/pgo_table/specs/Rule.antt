-- The rule of the table, which holds between any two atomic steps.
use Rattle.std.specs.Prelude.{◌≡◌, ◌≢◌, ℕ, suc, ◌+◌, ◌*◌, ◌<◌, ◌≤◌, ◌⊎◌, true, false, List, [], ◌∷◌, ◌++◌, Option, None, Some, length, slice_index}
use mathlib.Core.Option as Found
use lib.ListN.{get_elem?}
use Rattle.atomic_table.specs.Table.{State}
use Rattle.pgo_base.specs.Data.{Data}
use Rattle.pgo_journal.specs.Journal.{JournalView}
use Rattle.pgo_model.specs.Accounts.{journal}
use Rattle.pgo_model.specs.Log.{Effect}
use Rattle.pgo_model.specs.Machine.{Entry, Note, nth}
use Rattle.pgo_resource.specs.PlainRows.{apart}
use Rattle.pgo_workers.specs.Closed.{Has}
use Rattle.pgo_workers.specs.Walk.{Agrees}
use Rattle.pgo_workers.specs.View.{Shown, IsHeld, IsFull, Taking, World, Others, OtherNotes, notes_of, changed, state}
use Rattle.pgo_workers.specs.Worlds.{Layout}
use Rattle.pgo_table.specs.SeatViews.{Holding, History, TableTerms, WordStep, SeatView, HasHistory, holding_at, resources, total, tells, claims, weight, passes, made, cap}
use Rattle.pgo_table.specs.declared.slots.Stored.{Stored}
use Rattle.pgo_table.specs.declared.slots.Stored.TheVariants.{Content, Journal as AsJournal}

-- a slot is away with a seat, or has a value at home
abbrev pub Home : Type 0 → Type 0
Home C = Found.Option (Found.Option (Option (Stored C)))

-- ---- resources

-- a content that is as the journal leaves component r
pub record Rests {C : Type 0} (M : C → Shown) (comp : ℕ → Data) (r : ℕ) (c : C) : Type 0 where
  pub base : (M c).base ≡ comp r
  pub current : (M c).current ≡ comp r
  pub numbered : ((M c).number ≡ None) ⊎ ((M c).number ≡ Some r)

-- no seat passed a number above `most` for r
abbrev pub PassedTo : List SeatView → ℕ → ℕ → Type 0
PassedTo views r most = (n : ℕ) → most < n → total (passes r n) views ≡ 0

abbrev pub Nobody : List SeatView → ℕ → Type 0
Nobody views r = (j : ℕ) (v : SeatView) → get_elem? views j ≡ Found.some v → holding_at v.holds r ≡ None

abbrev pub NobodyElse : List SeatView → ℕ → ℕ → Type 0
NobodyElse views r seat = (j : ℕ) (v : SeatView) → get_elem? views j ≡ Found.some v → j ≢ seat → holding_at v.holds r ≡ None

-- r was taken, and the take was answered Ok
abbrev pub TookOk : ℕ → History → Type 0
TookOk r a = (m : Taking) × Has a.told.takes m × (m.resource ≡ r) × (m.refusal ≡ None)

-- nobody holds r: its word is 0 and its content rests at home
pub record FreeResource {C : Type 0} (M : C → Shown) (comp : ℕ → Data) (word : ℕ) (home : Home C) (views : List SeatView) (r : ℕ) : Type 0 where
  pub word_is : word ≡ 0
  pub content : C
  pub home_is : home ≡ Found.some (Found.some (Some (Content content)))
  pub rests : Rests M comp r content
  pub nobody : Nobody views r
  pub passed : PassedTo views r (M content).count

-- one seat holds r, at the journal's value, and the word names that seat
pub record TakenResource {C : Type 0} (comp : ℕ → Data) (word : ℕ) (home : Home C) (views : List SeatView) (r : ℕ) : Type 0 where
  pub seat : ℕ
  pub by : SeatView
  pub hold : Holding
  pub by_is : get_elem? views seat ≡ Found.some by
  pub live : by.gone ≡ false
  pub word_is : word ≡ by.me.number + 1
  pub holds : holding_at by.holds r ≡ Some hold
  pub value : hold.value ≡ comp r
  pub home_is : home ≡ Found.some Found.none
  pub nobody : NobodyElse views r seat
  pub passed : PassedTo views r hold.count
  pub took : TookOk r by.me

abbrev pub ResourceStands : {C : Type 0} → (C → Shown) → (ℕ → Data) → ℕ → Home C → List SeatView → ℕ → Type 0
ResourceStands M comp word home views r = FreeResource M comp word home views r ⊎ TakenResource comp word home views r

-- ---- the journal

-- the journal of this table, with these entries and notes
pub record IsJournal (y : TableTerms) (seats : ℕ) (entries : List (Entry Effect)) (notes : List Note) (j : JournalView) : Type 0 where
  pub entries_are : j.entries ≡ entries
  pub notes_are : j.notes ≡ notes
  pub start : j.start ≡ y.layout.start
  pub steps : j.steps ≡ y.steps
  pub room : y.share * seats ≤ j.room

-- nobody has the journal, which lies at home
pub record FreeJournal {C : Type 0} (y : TableTerms) (seats : ℕ) (entries : List (Entry Effect)) (notes : List Note) (word : ℕ) (home : Home C) (views : List SeatView) : Type 0 where
  pub word_is : word ≡ 0
  pub contents : JournalView
  pub home_is : home ≡ Found.some (Found.some (Some (AsJournal contents)))
  pub is_journal : IsJournal y seats entries notes contents
  pub nobody : (j : ℕ) (v : SeatView) → get_elem? views j ≡ Found.some v → v.has ≡ false

-- one seat has the journal, and has seen all of it
pub record TakenJournal {C : Type 0} (entries : List (Entry Effect)) (notes : List Note) (word : ℕ) (home : Home C) (views : List SeatView) : Type 0 where
  pub seat : ℕ
  pub by : SeatView
  pub by_is : get_elem? views seat ≡ Found.some by
  pub live : by.gone ≡ false
  pub word_is : word ≡ by.me.number + 1
  pub has : by.has ≡ true
  pub entries_seen : by.me.entries ≡ entries
  pub notes_seen : by.me.notes ≡ notes
  pub home_is : home ≡ Found.some Found.none
  pub nobody : (j : ℕ) (v : SeatView) → get_elem? views j ≡ Found.some v → j ≢ seat → v.has ≡ false

abbrev pub JournalStands : {C : Type 0} → TableTerms → ℕ → List (Entry Effect) → List Note → ℕ → Home C → List SeatView → Type 0
JournalStands y seats entries notes word home views = FreeJournal y seats entries notes word home views ⊎ TakenJournal entries notes word home views

-- ---- what is known

-- a number of a view under which this is known
abbrev pub HistoryOf : List SeatView → ℕ → (History → Type 0) → Type 0
HistoryOf views h P = (j : ℕ) × (u : SeatView) × (b : History) × (get_elem? views j ≡ Found.some u) × HasHistory u b × (b.number ≡ h) × P b

abbrev pub HasEntryOf : ℕ → List (Entry Effect) → Type 0
HasEntryOf h entries = (p : ℕ) × (e : Entry Effect) × (nth entries p ≡ Some e) × (e.instance ≡ h)

abbrev pub HasNoteOf : ℕ → List Note → Type 0
HasNoteOf h notes = (p : ℕ) × (n : Note) × (nth notes p ≡ Some n) × (n.instance ≡ h)

abbrev pub ToldFull : History → Type 0
ToldFull b = (n : ℕ) × Has b.told.refused (IsFull n)

-- the seat with the number h has the journal
abbrev pub Holder : List SeatView → ℕ → Type 0
Holder views h = (j : ℕ) × (u : SeatView) × (get_elem? views j ≡ Found.some u) × (u.gone ≡ false) × (u.me.number ≡ h) × (u.has ≡ true)

-- h has the journal, or had it: it has an entry, a note, or a refusal Full
abbrev pub Reached : List SeatView → List (Entry Effect) → List Note → ℕ → Type 0
Reached views entries notes h = Holder views h ⊎ (HasEntryOf h entries ⊎ (HasNoteOf h notes ⊎ HistoryOf views h ToldFull))

-- a refusal by h has its cause
abbrev pub Caused : List SeatView → List (Entry Effect) → List Note → ℕ → ℕ → Type 0
Caused views entries notes r h = ((r ≢ journal) → HistoryOf views h (TookOk r)) × (r ≡ journal → Reached views entries notes h)

-- ---- the steps at words

-- what was found and left, step by step: each finds what the one before it left
abbrev pub Chain : ℕ → List (ℕ × ℕ) → ℕ → Type 0
Chain from [] word = from ≡ word
Chain from (p ∷ ps) word = (p.0 ≡ from) × Chain p.1 ps word

-- the steps at r's word so far, from 0 to what it is now; each is one seat's, once, as that seat tells it
pub record Traced (word : ℕ) (views : List SeatView) (r : ℕ) : Type 0 where
  pub trace : List (ℕ × ℕ)
  pub chain : Chain 0 trace word
  pub numbered : (n : ℕ) → total (λ (v : SeatView). made r n v.word_steps) views ≡ cap (length trace) n
  pub told : (j : ℕ) (v : SeatView) (x : WordStep) → get_elem? views j ≡ Found.some v → Has v.word_steps x → x.word ≡ r → nth trace x.number ≡ Some (x.found, x.left)

module _ {S : Type 0} (W : World S Effect) where
  abbrev pub behind : List (Entry Effect) → S
  behind entries = state W entries (length entries)

  abbrev pub component : List (Entry Effect) → ℕ → Data
  component entries r = W.value (behind entries) r

  -- an answered take agrees with the state after some number of entries
  abbrev pub AgreesOnce : List (Entry Effect) → ℕ → Taking → Type 0
  AgreesOnce entries k m = (p : ℕ) × (p ≤ length entries) × Agrees m.held (W.value (state W entries p)) × (W.own (state W entries p) k ≡ m.own)

  -- the journal begins with what was seen, and goes on by others; no more notes than the share; and each take agrees
  pub record Follows (share : ℕ) (entries : List (Entry Effect)) (notes : List Note) (a : History) : Type 0 where
    pub entries_more : List (Entry Effect)
    pub entries_are : entries ≡ a.entries ++ entries_more
    pub others : Others a.number entries_more
    pub notes_more : List Note
    pub notes_are : notes ≡ a.notes ++ notes_more
    pub other_notes : OtherNotes a.number notes_more
    pub within_share : notes_of a.number a.notes ≤ share
    pub agrees : (m : Taking) → Has a.told.takes m → AgreesOnce entries a.number m

  abbrev pub AllOf : List (Entry Effect) → Type 0
  AllOf [] = Unit {0}
  AllOf (e ∷ es) = (W.is_of e.instance e.change ≡ true) × AllOf es

  pub record Kept {C : Type 0} (M : C → Shown) (y : TableTerms) (s : State (Option (Stored C)) SeatView) : Type 0 where
    pub entries : List (Entry Effect)
    pub notes : List Note
    pub wide : length s.words ≡ length s.homes
    pub long : length s.homes ≡ suc (length y.layout.resources)
    pub resources_stand : (r : ℕ) → r < length y.layout.resources → ResourceStands M (component entries) (slice_index s.words r) (get_elem? s.homes r) s.views r
    pub journal_stands : JournalStands y W.instances entries notes (slice_index s.words (length y.layout.resources)) (get_elem? s.homes (length y.layout.resources)) s.views
    pub traced : (r : ℕ) → r ≤ length y.layout.resources → Traced (slice_index s.words r) s.views r
    -- each number of an instance is with one seat at most, and no other number is
    pub each : (x : ℕ) → total (claims x) s.views ≤ cap W.instances x
    pub counted : total weight s.views ≡ W.instances
    -- no pre-commit is passed twice
    pub once : (r n : ℕ) → total (passes r n) s.views ≤ 1
    pub terms_are : (j : ℕ) (v : SeatView) → get_elem? s.views j ≡ Found.some v → v.gone ≡ false → v.terms ≡ y
    pub follows : (j : ℕ) (v : SeatView) (a : History) → get_elem? s.views j ≡ Found.some v → HasHistory v a → Follows y.share entries notes a
    pub strangers : (x : ℕ) → total (tells x) s.views ≡ 0 → Others x entries × OtherNotes x notes
    -- each resource is held once at most, and nothing else is
    pub tidy : (j : ℕ) (v : SeatView) → get_elem? s.views j ≡ Found.some v → apart (length y.layout.resources) (resources v.holds) ≡ true
    pub all_of : AllOf entries
    pub room : length entries ≤ y.steps
    pub causes : (j : ℕ) (v : SeatView) (a : History) (r h : ℕ) → get_elem? s.views j ≡ Found.some v → HasHistory v a → Has a.told.refused (IsHeld r h) → Caused s.views entries notes r h

-- what a world's entries do to its states
pub record Laws {S : Type 0} (W : World S Effect) (Fits : S → Type 0) : Type 0 where
  pub start : Fits W.start
  pub keeps : (k : ℕ) (s : S) (d : Effect) → Fits s → W.is_of k d ≡ true → Fits (W.patched s d)
  pub value : (k : ℕ) (s : S) (d : Effect) → Fits s → W.is_of k d ≡ true → (r : ℕ) → W.is_resource r ≡ true → W.value (W.patched s d) r ≡ changed (W.changes d) r (W.value s r)
  pub own : (k : ℕ) (s : S) (d : Effect) → Fits s → W.is_of k d ≡ true → W.own (W.patched s d) k ≡ W.owned (W.own s k) d
  pub others : (k : ℕ) (s : S) (d : Effect) → Fits s → W.is_of k d ≡ true → (j : ℕ) → (j ≡ k → ⊥) → W.own (W.patched s d) j ≡ W.own s j

-- what a table is made with
pub record Proper {S : Type 0} (world : Layout → World S Effect) (Fits : Layout → S → Type 0) (y : TableTerms) : Type 0 where
  pub laws : Laws (world y.layout) (Fits y.layout)
  pub few : length y.layout.resources ≤ journal
  pub resource : (r : ℕ) → r < length y.layout.resources → (world y.layout).is_resource r ≡ true
