-- What the journal and the records of a run say of each attempt.
use Rattle.std.specs.Prelude.{◌≡◌, ◌≤◌, ◌<◌, ℕ, suc, Bool, true, List, length, Some, ◌⊎◌}
use Rattle.std.specs.List.{AllByRecursion}
use Rattle.pgo_base.specs.Data.{Data}
use Rattle.pgo_model.specs.Outcome.{Outcome, Next, Stuck}
use Rattle.pgo_model.specs.Machine.{Rules, Entry, Note, Record, Step, Noted, Held, Down, Full, Finished, nth, state_at}

abbrev pub AllIn : (ℕ → Type 0) → List ℕ → Type 0
AllIn = AllByRecursion

-- r is a member of the list
abbrev pub IsAmong : ℕ → List ℕ → Type 0
IsAmong r l = (n : ℕ) × (nth l n ≡ Some r)

-- r and q are members of the list, and r stands before the first place of q
abbrev pub IsBefore : ℕ → ℕ → List ℕ → Type 0
IsBefore r q l = IsAmong q l × ((n : ℕ) × (nth l n ≡ Some r) × ((j : ℕ) → j ≤ n → nth l j ≡ Some q → ⊥))

-- the number that stands for the journal where a refusal names a resource
abbrev pub journal : ℕ
journal = 1024

-- a later record against an earlier one: entries and notes come in order
abbrev pub ComesAfter : Record → Record → Type 0
ComesAfter (Held r h) old = Unit {0}
ComesAfter (Down r o) old = Unit {0}
ComesAfter (Full q) old = Unit {0}
ComesAfter (Step q) (Step n) = n < q
ComesAfter (Step q) (Noted kind p) = p < q
ComesAfter (Step q) (Held r h) = Unit {0}
ComesAfter (Step q) (Down r o) = Unit {0}
ComesAfter (Step q) (Full n) = Unit {0}
ComesAfter (Noted kind q) (Step n) = n ≤ q
ComesAfter (Noted kind q) (Noted kind' p) = Unit {0}
ComesAfter (Noted kind q) (Held r h) = Unit {0}
ComesAfter (Noted kind q) (Down r o) = Unit {0}
ComesAfter (Noted kind q) (Full n) = Unit {0}

-- a record that shows that its attempt reached the journal
abbrev pub ReachedJournal : Record → Type 0
ReachedJournal (Step n) = Unit {0}
ReachedJournal (Noted kind p) = Unit {0}
ReachedJournal (Full n) = Unit {0}
ReachedJournal (Held r h) = ⊥
ReachedJournal (Down r o) = ⊥

-- the resource is in the trace; of an attempt that was refused at another resource, before that
abbrev pub ReachedBefore : Record → ℕ → List ℕ → Type 0
ReachedBefore (Held q h) r trace = ((q ≡ journal) × IsAmong r trace) ⊎ IsBefore r q trace
ReachedBefore (Step n) r trace = IsAmong r trace
ReachedBefore (Noted kind p) r trace = IsAmong r trace
ReachedBefore (Full n) r trace = IsAmong r trace
ReachedBefore (Down q o) r trace = IsAmong r trace

module _ {S D : Type 0} (R : Rules S D) where
  -- the state after n entries. Of a system's machine it is the state by components (Entries.run_states)
  abbrev pub at : Finished D → ℕ → S
  at f n = state_at R R.start f.entries n

  -- the outcome of instance k's attempt a after n entries
  abbrev pub outcome : Finished D → (k a n : ℕ) → Outcome S
  outcome f k a n = (R.sect k a (at f n)).end

  abbrev pub trace : Finished D → (k a n : ℕ) → List ℕ
  trace f k a n = (R.sect k a (at f n)).trace

  -- a note is true: on the state at its position its attempt's section finds no end, for the reason noted
  abbrev pub NoteTrue : Finished D → Note → Type 0
  NoteTrue f n = (n.position ≤ length f.entries) × (outcome f n.instance n.attempt n.position ≡ Stuck n.kind)

  -- each entry is what its instance's section does on the state before it
  abbrev pub StepsAreSections : Finished D → Type 0
  StepsAreSections f = (p : ℕ) (e : Entry D) → nth f.entries p ≡ Some e → outcome f e.instance e.attempt p ≡ Next (at f (suc p)) (R.printed e.change)

  -- entry number p + 1: its instance is one, its section ended in the state after it with these prints, and it records the
  -- difference of the states before and after it
  pub record EntryMade (f : Finished D) (p : ℕ) (e : Entry D) : Type 0 where
    pub instance : e.instance < R.instances
    pub prints : List Data
    pub change : e.change ≡ R.between e.instance (at f p) (at f (suc p)) prints
    pub outcome : (R.sect e.instance e.attempt (at f p)).end ≡ Next (at f (suc p)) prints

  abbrev pub EntriesMade : Finished D → Type 0
  EntriesMade f = (p : ℕ) (e : Entry D) → nth f.entries p ≡ Some e → EntryMade f p e

  -- what a refusal of a run says besides, where every attempt that began is finished: the attempt reaches the
  -- resource, and so does a recorded attempt of the holder
  abbrev pub Contended : Finished D → Type 0
  Contended f =
      ((k i r h : ℕ) → nth (f.records k) i ≡ Some (Held r h) →
      (j : ℕ) × (y : Record) × (nth (f.records h) j ≡ Some y)
      × (((r ≡ journal) × ReachedJournal y)
      ⊎ ((p q : ℕ) × (p ≤ length f.entries) × (q ≤ length f.entries) × IsAmong r (trace f k (suc i) p) × ReachedBefore y r (trace f h (suc j) q))))
      × ((k i r o : ℕ) → nth (f.records k) i ≡ Some (Down r o) →
      (p : ℕ) × (t : S) × (ps : List Data) × (p ≤ length f.entries) × (outcome f k (suc i) p ≡ Next t ps) × IsAmong r (trace f k (suc i) p))
      × ((k i n : ℕ) → nth (f.records k) i ≡ Some (Full n) →
      (p : ℕ) × (t : S) × (ps : List Data) × (p ≤ length f.entries) × (outcome f k (suc i) p ≡ Next t ps))

  -- `run`: the records are those of the command `run`, or of threads, and not those of a list of turns
  module _ (run : Bool) where
    -- of all instances: no failing pre-commit is answered twice; the number of a Full is the journal's length, which is at
    -- most `steps`; of a run each refusal has its cause
    pub record JointAccounts (f : Finished D) : Type 0 where
      pub once : (k l i j r o : ℕ) → nth (f.records k) i ≡ Some (Down r o) → nth (f.records l) j ≡ Some (Down r o) → (k ≡ l) × (i ≡ j)
      pub full : (k i n : ℕ) → nth (f.records k) i ≡ Some (Full n) → n ≡ length f.entries
      pub room : length f.entries ≤ R.steps
      pub contended : run ≡ true → Contended f

  module _ (Reaches : (k r : ℕ) → Type 0) where
    -- of instance k alone; `run` as above
    module _ (run : Bool) where
      -- what record number i + 1 of k claims
      abbrev pub Told : Finished D → (k i : ℕ) → Record → Type 0
      Told f k i (Step n) =
          (p : ℕ) × (e : Entry D) × (n ≡ suc p) × (nth f.entries p ≡ Some e) × (e.instance ≡ k) × (e.attempt ≡ suc i)
          × (outcome f k (suc i) p ≡ Next (at f (suc p)) (R.printed e.change))
      Told f k i (Noted kind p) =
          (j : ℕ) × (nth f.notes j ≡ Some (record { instance = k; attempt = suc i; kind = kind; position = p }))
          × NoteTrue f (record { instance = k; attempt = suc i; kind = kind; position = p })
      Told f k i (Held r h) = (h ≡ k → ⊥) × (h < R.instances) × ((Reaches k r × Reaches h r) ⊎ ((r ≡ journal) × (run ≡ true)))
      Told f k i (Down r o) = R.fails r o ≡ true
      Told f k i (Full n) = n ≡ R.steps

      -- of instance k: its records number its attempts from 1, and each says what became of its attempt; the entries and
      -- notes of k are exactly those that its records name, in order; no attempt has two notes; Full is a last record; a
      -- number that has a record is an instance's
      pub record Accounts (f : Finished D) (k : ℕ) : Type 0 where
        pub told : (i : ℕ) (x : Record) → nth (f.records k) i ≡ Some x → Told f k i x
        pub entries : (p : ℕ) (e : Entry D) → nth f.entries p ≡ Some e → e.instance ≡ k
            → (i : ℕ) × (e.attempt ≡ suc i) × (nth (f.records k) i ≡ Some (Step (suc p)))
        pub notes : (j : ℕ) (n : Note) → nth f.notes j ≡ Some n → n.instance ≡ k
            → (i : ℕ) × (n.attempt ≡ suc i) × (nth (f.records k) i ≡ Some (Noted n.kind n.position))
        pub notes_once : (i j : ℕ) (x y : Note) → nth f.notes i ≡ Some x → nth f.notes j ≡ Some y → x.instance ≡ k → y.instance ≡ k → x.attempt ≡ y.attempt → i ≡ j
        pub ordered : (i j : ℕ) (x y : Record) → nth (f.records k) i ≡ Some x → nth (f.records k) j ≡ Some y → i < j → ComesAfter y x
        pub bounded : length (f.records k) ≤ R.attempts
        pub last : (i n : ℕ) → nth (f.records k) i ≡ Some (Full n) → suc i ≡ length (f.records k)
        pub number : (i : ℕ) (x : Record) → nth (f.records k) i ≡ Some x → k < R.instances

    -- the premises, of good states: the run starts in one and a section leads from one to one; there an entry's record
    -- leads to its section's end, and a section reaches what its instance is bound to
    module _ (Good : S → Type 0) where
      pub record Fits : Type 0 where
        pub start : Good R.start
        pub kept : (k a : ℕ) (s t : S) (ps : List Data) → Good s → (R.sect k a s).end ≡ Next t ps → Good t
        pub patches : (k a : ℕ) (s t : S) (ps : List Data) → Good s → (R.sect k a s).end ≡ Next t ps → R.patched s (R.between k s t ps) ≡ t
        pub prints : (k : ℕ) (s t : S) (ps : List Data) → R.printed (R.between k s t ps) ≡ ps
        pub reaches : (k a : ℕ) (s : S) → Good s → AllIn (Reaches k) (R.sect k a s).trace
