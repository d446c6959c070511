-- What each step tells: of the step, the seat before, the number found and the seat after.
use Rattle.std.specs.Prelude.{◌≡◌, ◌≢◌, ℕ, ◌+◌, ◌-◌, ◌<◌, ◌≤◌, ◌⊎◌, true, false, List, [], ◌∷◌, ◌++◌, Option, None, Some, length, slice_index}
use mathlib.Core.Option as Found
use lib.ListN.{get_elem?}
use Rattle.atomic_table.specs.Table.{State, Me, Step, rest}
use Rattle.pgo_base.specs.Data.{Data}
use Rattle.pgo_journal.specs.Journal.{JournalView}
use Rattle.pgo_model.specs.Accounts.{journal}
use Rattle.pgo_model.specs.Log.{Effect}
use Rattle.pgo_model.specs.Machine.{Entry, Note}
use Rattle.pgo_workers.specs.Walk.{Own}
use Rattle.pgo_workers.specs.View.{Shown, Refusal, IsHeld, IsFull, Taking, Told, World, Others, OtherNotes, answers, refuses, own_left, stretch, notes_of}
use Rattle.pgo_workers.specs.Worlds.{Layout}
use Rattle.pgo_table.specs.SeatViews.{Holding, holding, History, SeatView, holding_at, without, values, renewed, no_history}
use Rattle.pgo_table.specs.Rule.{Nobody, Kept, behind, IsJournal, AllOf}
use Rattle.pgo_table.specs.declared.slots.Stored.{Stored}
use Rattle.pgo_table.specs.declared.slots.Stored.TheVariants.{Content, Journal as AsJournal}

abbrev pub Slot : Type 0 → Type 0
Slot C = Option (Stored C)

-- ---- what becomes of a view

abbrev pub with_me : SeatView → History → SeatView
with_me v a = record v { me = a }

abbrev pub with_told : History → Told → History
with_told a t = record a { told = t }

-- a step at a word was made
abbrev pub stepped_at : ℕ → ℕ → ℕ → ℕ → SeatView → SeatView
stepped_at i number found left v = record v { word_steps = v.word_steps ++ record { word = i; number = number; found = found; left = left } ∷ [] }

-- another refusal was told
abbrev pub told_refusal : SeatView → Refusal → SeatView
told_refusal v x = with_me v (with_told v.me (refuses x v.me.told))

-- the journal was had, and released as it was, since it is full
abbrev pub filled : SeatView → ℕ → SeatView
filled v n = record (told_refusal v (IsFull n)) { has = false }

-- the seat has the journal, and has seen all of it
abbrev pub reads : SeatView → List (Entry Effect) → List Note → SeatView
reads v es ns = record v { has = true; me = record v.me { entries = es; notes = ns } }

-- the journal was released with a note more
abbrev pub noted : SeatView → Note → SeatView
noted v n = record v { has = false; me = record v.me { notes = v.me.notes ++ n ∷ [] } }

abbrev pub gave : SeatView → ℕ → ℕ → ℕ → SeatView
gave v r count now = record v { holds = without v.holds r; me = with_told v.me (record v.me.told { passed = v.me.told.passed ++ stretch r count (now - count) }) }

-- a new seat gets the first spare number
abbrev pub later : List ℕ → List ℕ
later [] = []
later (a ∷ more) = more

abbrev pub first_or : ℕ → List ℕ → ℕ
first_or d [] = d
first_or d (a ∷ more) = a

abbrev pub after_split : SeatView → SeatView
after_split v = record v { spare = later v.spare }

abbrev pub new_seat : SeatView → SeatView
new_seat v = record { terms = v.terms; gone = false; me = no_history (first_or 0 v.spare); joined = []; spare = []; has = false; holds = []; word_steps = [] }

abbrev pub after_join : SeatView → SeatView → SeatView
after_join v w = record v { joined = v.joined ++ (w.me ∷ w.joined); spare = v.spare ++ w.spare; word_steps = v.word_steps ++ w.word_steps }

module _ {S : Type 0} (W : World S Effect) where
  -- the own components, as the seat knows them
  abbrev pub own_known : SeatView → Own
  own_known v = own_left W v.me.number (W.own W.start v.me.number) v.me.entries

  abbrev pub taking_of : SeatView → ℕ → Option ℕ → List Holding → Taking
  taking_of v r refusal hs = record { resource = r; refusal = refusal; held = values hs; own = own_known v }

  abbrev pub took : SeatView → ℕ → Data → ℕ → SeatView
  took v r x n = let hs = v.holds ++ holding r x n ∷ [] in record v { holds = hs; me = with_told v.me (answers (taking_of v r None hs) v.me.told) }

  abbrev pub take_refused : SeatView → ℕ → ℕ → SeatView
  take_refused v r h = with_me v (with_told v.me (answers (taking_of v r (Some h) v.holds) (refuses (IsHeld r h) v.me.told)))

  -- the journal was released with an entry more
  abbrev pub wrote : SeatView → Entry Effect → SeatView
  wrote v e = record v { has = false; holds = renewed (W.changes e.change) v.holds; me = record v.me { entries = v.me.entries ++ e ∷ [] } }

  -- the journal as it was found goes on from what the seat has seen, by others; and what it holds, and its own components, are as it leaves them
  pub record Opened (v : SeatView) (j : JournalView) : Type 0 where
    pub is_journal : IsJournal v.terms W.instances j.entries j.notes j
    pub entries_more : List (Entry Effect)
    pub entries_are : j.entries ≡ v.me.entries ++ entries_more
    pub others : Others v.me.number entries_more
    pub notes_more : List Note
    pub notes_are : j.notes ≡ v.me.notes ++ notes_more
    pub other_notes : OtherNotes v.me.number notes_more
    pub within_steps : length j.entries ≤ v.terms.steps
    pub all_of : AllOf W j.entries
    pub held : (r : ℕ) (h : Holding) → r < length v.terms.layout.resources → holding_at v.holds r ≡ Some h → W.value (behind W j.entries) r ≡ h.value
    pub own : W.own (behind W j.entries) v.me.number ≡ own_known v
    -- where fewer than its share are its notes, there is room
    pub note_room : notes_of v.me.number j.notes < v.terms.share → length j.notes < j.room

module _ {S : Type 0} (world : Layout → World S Effect) where
  abbrev pub W_of : SeatView → World S Effect
  W_of v = world v.terms.layout

  abbrev pub HeldBy : SeatView → ℕ → Type 0
  HeldBy v found = (found ≤ (W_of v).instances) × (found ≢ v.me.number + 1)

-- the seat of instance h holds r
abbrev pub HoldsNow : List SeatView → ℕ → ℕ → Type 0
HoldsNow views r h = (j : ℕ) × (u : SeatView) × (x : Holding) × (get_elem? views j ≡ Found.some u) × (u.gone ≡ false) × (u.me.number ≡ h) × (holding_at u.holds r ≡ Some x)

-- what one step of a take comes upon: a state of the table that meets the rule, with the seat's view in it, so many steps behind it at r's word, and a number in that word
pub record TakeStep {S C : Type 0} (W : World S Effect) (M : C → Shown) (v : SeatView) (r number found : ℕ) : Type 0 where
  pub state : State (Slot C) SeatView
  pub kept : Kept W M v.terms state
  pub seat : ℕ
  pub view_is : get_elem? state.views seat ≡ Found.some v
  pub near : r ≤ length v.terms.layout.resources
  pub number_is : number ≡ length (kept.traced r near).trace
  pub word_is : slice_index state.words r ≡ found
  -- 0 where nobody holds r, and h + 1 where h does
  pub free : found ≡ 0 → Nobody state.views r
  pub held : (h : ℕ) → found ≡ h + 1 → HoldsNow state.views r h

module _ {S C : Type 0} (world : Layout → World S Effect) where
  abbrev pub takes : (C → Shown) → Step (Slot C) → Me (Slot C) SeatView → ℕ → Me (Slot C) SeatView → Type 0
  takes M st m found n =
      (number : ℕ)
      × (found ≡ 0 → (c : C) × (n ≡ (stepped_at st.word number found st.second (took (W_of world m.0) m.0 st.word (M c).base (M c).count), (st.word, Some (Content c)) ∷ m.1)) × ((M c).current ≡ (M c).base) × (((M c).number ≡ None) ⊎ ((M c).number ≡ Some st.word)))
      × (found ≢ 0 → (n ≡ (stepped_at st.word number found found (take_refused (W_of world m.0) m.0 st.word (found - 1)), m.1)) × HeldBy world m.0 found)
      × TakeStep (W_of world m.0) M m.0 st.word number found

  abbrev pub gives : (C → Shown) → Step (Slot C) → Me (Slot C) SeatView → ℕ → Me (Slot C) SeatView → Type 0
  gives M st m found n =
      (number : ℕ)
      × ((h : Holding) (c : C) → holding_at m.0.holds st.word ≡ Some h → m.1 ≡ (st.word, Some (Content c)) ∷ rest m.1 → n ≡ (stepped_at st.word number (m.0.me.number + 1) 0 (gave m.0 st.word h.count (M c).count), rest m.1))

  abbrev pub opens : Step (Slot C) → Me (Slot C) SeatView → ℕ → Me (Slot C) SeatView → Type 0
  opens st m found n =
      (number : ℕ)
      × (found ≡ 0 → (j : JournalView) × (n ≡ (stepped_at st.word number found st.second (reads m.0 j.entries j.notes), (st.word, Some (AsJournal j)) ∷ m.1)) × Opened (W_of world m.0) m.0 j)
      × (found ≢ 0 → (n ≡ (stepped_at st.word number found found (told_refusal m.0 (IsHeld journal (found - 1))), m.1)) × HeldBy world m.0 found)

  abbrev pub commits : Step (Slot C) → Me (Slot C) SeatView → ℕ → Me (Slot C) SeatView → Type 0
  commits st m found n =
      (number : ℕ)
      × ((j : JournalView) (e : Entry Effect) → m.1 ≡ (st.word, Some (AsJournal j)) ∷ rest m.1 → j.entries ≡ m.0.me.entries ++ e ∷ [] → n ≡ (stepped_at st.word number (m.0.me.number + 1) 0 (wrote (W_of world m.0) m.0 e), rest m.1))

  abbrev pub notes : Step (Slot C) → Me (Slot C) SeatView → ℕ → Me (Slot C) SeatView → Type 0
  notes st m found n =
      (number : ℕ)
      × ((j : JournalView) (x : Note) → m.1 ≡ (st.word, Some (AsJournal j)) ∷ rest m.1 → j.notes ≡ m.0.me.notes ++ x ∷ [] → n ≡ (stepped_at st.word number (m.0.me.number + 1) 0 (noted m.0 x), rest m.1))

  abbrev pub fills : Step (Slot C) → Me (Slot C) SeatView → ℕ → Me (Slot C) SeatView → Type 0
  fills st m found n = (number : ℕ) × (n ≡ (stepped_at st.word number (m.0.me.number + 1) 0 (filled m.0 m.0.terms.steps), rest m.1))
