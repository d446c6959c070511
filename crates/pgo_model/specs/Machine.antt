-- The core machine: one turn of one instance is one event, by a recursion on the list of turns. The events of an
-- attempt are listed from what its section does on the state of the journal.
use Rattle.std.specs.Prelude.{ℕ, zero, suc, Bool, true, false, if◌then◌else◌, nat_eq, nat_lt, List, [], ◌∷◌, ◌++◌, length, Option, Some, None}
use Rattle.pgo_base.specs.Data.{Data}
pub use Rattle.pgo_base.specs.Lookup.{nth}
use Rattle.pgo_model.specs.Outcome.{Kind, Blocked, NoValue, AssertFails, Many, Outcome, Next, Stuck, Nowhere, Section}

-- what the machine stands on: S are the states, D what an entry records; resources and instances are numbers
pub record Rules (S D : Type 0) : Type 0 where
  pub start : S
  -- how many instances there are
  pub instances : ℕ
  -- what attempt a of instance k does on a state
  pub sect : (k a : ℕ) → S → Section ℕ S
  pub at_done : (k : ℕ) → S → Bool
  -- what an entry records of k's step between two states, with what was printed
  pub between : (k : ℕ) → S → S → List Data → D
  -- the state after an entry
  pub patched : S → D → S
  pub printed : D → List Data
  -- at how many entries the journal is full, and how many attempts an instance makes
  pub steps : ℕ
  pub attempts : ℕ
  -- the pre-commits that fail: resource and number
  pub fails : ℕ → ℕ → Bool

-- a committed attempt
pub record Entry (D : Type 0) : Type 0 where
  pub instance : ℕ
  pub attempt : ℕ
  pub change : D

-- an attempt that found no end, with the number of entries before it
pub record Note : Type 0 where
  pub instance : ℕ
  pub attempt : ℕ
  pub kind : Kind
  pub position : ℕ

-- what became of an attempt: an entry, a note, or a refusal
pub data Record : Type 0 where
  Step : (n : ℕ) → Record
  Noted : (kind : Kind) → (position : ℕ) → Record
  Held : (resource holder : ℕ) → Record
  Down : (resource operation : ℕ) → Record
  Full : (entries : ℕ) → Record

-- one instance: its records, the events done in its attempt, whether its attempt is finished with gives left,
-- and what it holds in the order of taking
pub record Worker : Type 0 where
  pub records : List Record
  pub done : ℕ
  pub giving : Bool
  pub held : List ℕ

pub record Machine (D : Type 0) : Type 0 where
  pub holder : ℕ → Option ℕ
  pub counts : ℕ → ℕ
  pub entries : List (Entry D)
  pub notes : List Note
  pub workers : ℕ → Worker

-- what a run leaves: the journal, the notes, and the records of each instance
pub record Finished (D : Type 0) : Type 0 where
  pub entries : List (Entry D)
  pub notes : List Note
  pub records : ℕ → List Record

pub data Event : Type 0 where
  Take : (r : ℕ) → Event
  Operate : (r : ℕ) → Event
  PreCommit : (r : ℕ) → Event
  Commit : Event
  Noting : (kind : Kind) → Event

abbrev pub among : ℕ → List ℕ → Bool
among i [] = false
among i (j ∷ js) = if nat_eq i j then true else among i js

abbrev pub pre_commits : List ℕ → List Event
pre_commits [] = Commit ∷ []
pre_commits (r ∷ rs) = PreCommit r ∷ pre_commits rs

abbrev pub last_events : {S : Type 0} → Outcome S → List ℕ → List Event
last_events (Next t ps) taken = pre_commits taken
last_events (Stuck kind) taken = Noting kind ∷ []
last_events Nowhere taken = []

-- the events of an attempt; those of `taken` are taken
abbrev pub events : {S : Type 0} → List ℕ → Outcome S → List ℕ → List Event
events [] end taken = last_events end taken
events (r ∷ trace) end taken =
    if among r taken then Operate r ∷ events trace end taken else Take r ∷ (Operate r ∷ events trace end (taken ++ (r ∷ [])))

abbrev pub put : {A : Type 0} → ℕ → A → (ℕ → A) → ℕ → A
put i x f j = if nat_eq j i then x else f j

-- a last record after which an instance makes no attempt
abbrev pub last_ends : List Record → Bool
last_ends [] = false
last_ends (Step n ∷ []) = false
last_ends (Noted Blocked p ∷ []) = false
last_ends (Noted NoValue p ∷ []) = true
last_ends (Noted AssertFails p ∷ []) = true
last_ends (Noted Many p ∷ []) = false
last_ends (Held r h ∷ []) = false
last_ends (Down r o ∷ []) = false
last_ends (Full n ∷ []) = true
last_ends (r ∷ (s ∷ rs)) = last_ends (s ∷ rs)

abbrev pub is_empty : {A : Type 0} → List A → Bool
is_empty [] = true
is_empty (x ∷ l) = false

abbrev pub is_under_way : Worker → Bool
is_under_way p = if nat_eq p.done 0 then p.giving else true

-- the attempt is finished with this record; what is held is still to be given
abbrev pub with_record : Record → Worker → Worker
with_record x p = record { records = p.records ++ (x ∷ []); done = 0; giving = if is_empty p.held then false else true; held = p.held }

-- without an attempt under way
abbrev pub at_rest : Worker → Worker
at_rest p = record { records = p.records; done = 0; giving = false; held = [] }

module _ {D : Type 0} where
  abbrev pub finished_of : Machine D → Finished D
  finished_of m = record { entries = m.entries; notes = m.notes; records = λ k. (m.workers k).records }

  abbrev pub attempt_of : Machine D → ℕ → ℕ
  attempt_of m k = suc (length (m.workers k).records)

  abbrev pub tells : Machine D → ℕ → Record → Machine D
  tells m k x = record m { workers = put k (with_record x (m.workers k)) m.workers }

  abbrev pub goes_on : Machine D → ℕ → Machine D
  goes_on m k = record m { workers = put k (record (m.workers k) { done = suc (m.workers k).done }) m.workers }

  abbrev pub takes : Machine D → ℕ → ℕ → Machine D
  takes m k r =
      record m {
        holder = put r (Some k) m.holder;
        workers = put k (record (m.workers k) { done = suc (m.workers k).done; held = (m.workers k).held ++ (r ∷ []) }) m.workers;
      }

  -- a take is refused exactly where another instance holds the resource
  abbrev pub taking : Machine D → ℕ → ℕ → Option ℕ → Machine D
  taking m k r None = takes m k r
  taking m k r (Some h) = if nat_eq h k then takes m k r else tells m k (Held r h)

  abbrev pub counted : Machine D → ℕ → Machine D
  counted m r = record m { counts = put r (suc (m.counts r)) m.counts }

  -- a pre-commit raises the count, and is refused exactly where the pair is listed
  abbrev pub pre_committing : Machine D → ℕ → ℕ → Bool → Machine D
  pre_committing m k r true = tells (counted m r) k (Down r (suc (m.counts r)))
  pre_committing m k r false = goes_on (counted m r) k

  abbrev pub noting : Machine D → ℕ → Kind → Machine D
  noting m k kind =
      tells (record m { notes = m.notes ++ (record { instance = k; attempt = attempt_of m k; kind = kind; position = length m.entries } ∷ []) }) k
      (Noted kind (length m.entries))

  -- the first resource that is still held is given
  abbrev pub gives : Machine D → ℕ → List ℕ → Machine D
  gives m k [] = m
  gives m k (r ∷ rs) = record m { holder = put r None m.holder; workers = put k (record (m.workers k) { giving = if is_empty rs then false else true; held = rs }) m.workers }

  abbrev pub opened : Machine D
  opened = record { holder = λ r. None; counts = λ r. 0; entries = []; notes = []; workers = λ k. record { records = []; done = 0; giving = false; held = [] } }

  -- all is given back, and what is unfinished is dropped
  abbrev pub stopped : Machine D → Machine D
  stopped m = record m { holder = λ r. None; workers = λ k. at_rest (m.workers k) }

module _ {S D : Type 0} (R : Rules S D) where
  -- the state after the first n entries
  abbrev pub state_at : S → List (Entry D) → ℕ → S
  state_at s l zero = s
  state_at s [] (suc n) = s
  state_at s (e ∷ l) (suc n) = state_at (R.patched s e.change) l n

  abbrev pub last_state : Machine D → S
  last_state m = state_at R.start m.entries (length m.entries)

  -- what k's attempt does on the state of the journal
  abbrev pub section : Machine D → ℕ → Section ℕ S
  section m k = R.sect k (attempt_of m k) (last_state m)

  abbrev pub has_ended : Machine D → ℕ → Bool
  has_ended m k =
      if is_under_way (m.workers k) then false
      else if R.at_done k (last_state m) then true
      else if last_ends (m.workers k).records then true
      else nat_eq (length (m.workers k).records) R.attempts

  abbrev pub appended : Machine D → ℕ → S → List Data → Machine D
  appended m k t ps = record m { entries = m.entries ++ (record { instance = k; attempt = attempt_of m k; change = R.between k (last_state m) t ps } ∷ []) }

  -- a commit is refused exactly where the journal is full
  abbrev pub committing : Machine D → ℕ → Bool → Outcome S → Machine D
  committing m k full (Stuck kind) = m
  committing m k full Nowhere = m
  committing m k true (Next t ps) = tells m k (Full (length m.entries))
  committing m k false (Next t ps) = tells (appended m k t ps) k (Step (suc (length m.entries)))

  abbrev pub does : Machine D → ℕ → Option Event → Machine D
  does m k None = m
  does m k (Some (Take r)) = taking m k r (m.holder r)
  does m k (Some (Operate r)) = goes_on m k
  does m k (Some (PreCommit r)) = pre_committing m k r (R.fails r (suc (m.counts r)))
  does m k (Some Commit) = committing m k (nat_eq (length m.entries) R.steps) (section m k).end
  does m k (Some (Noting kind)) = noting m k kind

  -- one turn of k: a give where its attempt is finished, else the attempt's next event; nothing where it has
  -- ended, or no instance has the number
  abbrev pub step : Machine D → ℕ → Machine D
  step m k =
      if nat_lt k R.instances
      then (if has_ended m k then m
      else if (m.workers k).giving then gives m k (m.workers k).held
      else does m k (nth (events (section m k).trace (section m k).end []) (m.workers k).done))
      else m

  abbrev pub after_turns : Machine D → List ℕ → Machine D
  after_turns m [] = m
  after_turns m (k ∷ ks) = after_turns (step m k) ks

  -- the machine after a list of turns, stopped
  abbrev pub run_turns : List ℕ → Machine D
  run_turns turns = stopped (after_turns opened turns)
