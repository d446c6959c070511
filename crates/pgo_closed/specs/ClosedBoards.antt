-- What the boards of all instances say together once they are closed, and what each worker says that has ended over its own.
-- Nothing here says in which order the turns came.
use Rattle.std.specs.Prelude.{◌≡◌, ◌≤◌, ◌<◌, ◌++◌, ℕ, true, false, List, length, Some, None, ◌⊎◌}
use Rattle.pgo_model.specs.Accounts.{journal}
use Rattle.pgo_model.specs.Machine.{Entry, Note, nth}
use Rattle.pgo_workers.specs.Closed.{Has}
use Rattle.pgo_workers.specs.Sentences.{Meets}
use Rattle.pgo_workers.specs.View.{IsHeld, IsFull, Taking, Told, View, World, Others, OtherNotes, state, own_seen}
use Rattle.pgo_workers.specs.Walk.{Agrees}
use Rattle.pgo_workers.specs.Worker.{Program, Worker, has_ended}
use Rattle.pgo_closed.specs.MadeEntries.{Stays}

module _ {S D : Type 0} (W : World S D) where
  -- of instance k: what it has seen is the front of the journal, whose rest is of others, and its own components stand in the
  -- last state
  pub record Sees (entries : List (Entry D)) (notes : List Note) (k : ℕ) (b : View D) : Type 0 where
    pub instance : b.instance ≡ k
    pub entries_more : List (Entry D)
    pub notes_more : List Note
    pub entries_are : entries ≡ b.entries ++ entries_more
    pub notes_are : notes ≡ b.notes ++ notes_more
    pub others : Others k entries_more
    pub other_notes : OtherNotes k notes_more
    pub own : W.own (state W entries (length entries)) k ≡ own_seen W b

module _ {S D : Type 0} (W : World S D) (instances steps : ℕ) where
  -- of all: `told` has what the board of each instance told
  pub record ClosedBoards (entries : List (Entry D)) (notes : List Note) (told : ℕ → Told) : Type 0 where
    pub room : length entries ≤ steps
    -- each entry and each note is an instance's
    pub entries_numbered : (p : ℕ) (e : Entry D) → nth entries p ≡ Some e → e.instance < instances
    pub notes_numbered : (p : ℕ) (n : Note) → nth notes p ≡ Some n → n.instance < instances
    -- each answered take agrees with the state after some number of entries
    pub agrees : (k : ℕ) (m : Taking) → k < instances → Has (told k).takes m → (p : ℕ) × (p ≤ length entries) × Agrees m.held (W.value (state W entries p)) × (W.own (state W entries p) k ≡ m.own)
    -- who is named by a refusal took the resource; or has a record, or found the journal full
    pub holder : (k r h : ℕ) → k < instances → Has (told k).refused (IsHeld r h) → (r ≡ journal → ⊥) → (m : Taking) × Has (told h).takes m × (m.resource ≡ r) × (m.refusal ≡ None)
    pub journal_holder : (k h : ℕ) → k < instances → Has (told k).refused (IsHeld journal h)
        → ((p : ℕ) × (e : Entry D) × (nth entries p ≡ Some e) × (e.instance ≡ h)) ⊎ (((p : ℕ) × (n : Note) × (nth notes p ≡ Some n) × (n.instance ≡ h)) ⊎ ((n : ℕ) × Has (told h).refused (IsFull n)))
    -- no pre-commit is passed twice
    pub once : (k l i j : ℕ) (x : ℕ × ℕ) → nth (told k).passed i ≡ Some x → nth (told l).passed j ≡ Some x → (k ≡ l) × (i ≡ j)

module _ {S D : Type 0} (W : World S D) (P : Program S D) (Reaches : ℕ → ℕ → Type 0) (Good : S → Type 0) where
  -- the worker of instance k has ended over this board, and has dropped no attempt
  pub record HasEnded (k : ℕ) (w : Worker) (b : View D) : Type 0 where
    pub number : w.number ≡ k
    pub meets : Meets W P Reaches Good w b
    pub stays : Stays W P Good w b
    pub ended : has_ended W P w ≡ true
    pub whole : w.dropped ≡ false
