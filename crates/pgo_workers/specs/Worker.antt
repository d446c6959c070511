-- A worker: what it shows, and what one turn of it over a board is.
use Rattle.std.specs.Prelude.{◌≡◌, ℕ, suc, Bool, true, false, List, [], ◌∷◌, ◌++◌, length, Option, Some, None, if◌then◌else◌, nat_eq}
use Rattle.pgo_base.specs.Data.{Data}
use Rattle.pgo_model.specs.Outcome.{Kind, Section}
use Rattle.pgo_model.specs.Machine.{Rules, Entry, Note, Record, Step, Noted, Held, Down, Full, among, nth, is_empty, last_ends}
use Rattle.pgo_model.specs.Accounts.{journal}
use Rattle.pgo_workers.specs.Walk.{Own, End, Goes, Sticks, Walk, Stop, Touch, settled, behind}
use Rattle.pgo_workers.specs.View.{Shown, raised, Hold, Refusal, IsHeld, IsFull, View, World, hold_at, with_content, aborted, committed, Takes, TakeHeld, Commits, Notes, JournalHeld, JournalFull, Gives}

-- a held resource with its base and what it is now
pub record Change : Type 0 where
  pub resource : ℕ
  pub before : Data
  pub after : Data

-- what a worker runs: the section of an attempt from the instance's own components, where an instance is done, and
-- what an entry records
pub record Program (S D : Type 0) : Type 0 where
  pub tree : (k a : ℕ) → Own → Walk
  pub is_done : (k : ℕ) → Own → Bool
  pub effect : (k : ℕ) → (own next : Own) → List Change → List Data → D
  -- of the specification: what attempt a of instance k does on a state, and where an instance is done
  pub instances : ℕ
  pub sect : (k a : ℕ) → S → Section ℕ S
  pub at_done : (k : ℕ) → S → Bool
  pub between : (k : ℕ) → S → S → List Data → D
  -- of the settings
  pub steps : ℕ
  pub attempts : ℕ
  pub fails : ℕ → ℕ → Bool

pub data Phase : Type 0 where
  -- no attempt is under way
  Resting : Phase
  -- what is left of the section, and how many taken resources are pre-committed
  Walking : (w : Walk) → (readied : ℕ) → Phase
  -- the attempt is finished, gives are left
  Giving : Phase

pub record Worker : Type 0 where
  pub number : ℕ
  pub records : List Record
  pub own : Own
  pub phase : Phase
  pub taken : List ℕ
  -- whether it has dropped an attempt, by a stop or for want of memory
  pub dropped : Bool

pub data Turn : Type 0 where
  Went : Turn
  Committed : (n : ℕ) → Turn
  HasNoted : (kind : Kind) → (position : ℕ) → Turn
  Refused : (refusal : Refusal) → Turn
  IsDown : (resource operation : ℕ) → Turn
  Idle : Turn

abbrev pub is_resting : Phase → Bool
is_resting Resting = true
is_resting (Walking w j) = false
is_resting Giving = false

abbrev pub is_giving : Phase → Bool
is_giving Resting = false
is_giving (Walking w j) = false
is_giving Giving = true

abbrev pub changes_of : List Hold → List Change
changes_of [] = []
changes_of (h ∷ hs) = record { resource = h.resource; before = h.content.base; after = h.content.current } ∷ changes_of hs

abbrev pub counted : Shown → Shown
counted c = record c { count = raised c.count }

abbrev pub with_held : {D : Type 0} → List Hold → View D → View D
with_held hs b = record b { held = hs }

-- what is held where this follows
abbrev pub put_back : Walk → List Hold → List Hold
put_back w hs = behind w (aborted hs) hs

-- the attempt is finished with this record; what is held is still to be given
abbrev pub finished : Record → Worker → Worker
finished x w = record w { records = w.records ++ (x ∷ []); phase = if is_empty w.taken then Resting else Giving }

abbrev pub walks_on : Walk → ℕ → Worker → Worker
walks_on c j w = record w { phase = Walking c j }

abbrev pub attempt : Worker → ℕ
attempt w = suc (length w.records)

module _ {S D : Type 0} (W : World S D) (P : Program S D) where
  -- the rules of the machine
  abbrev pub rules_of : Rules S D
  rules_of = record {
    start = W.start;
    instances = P.instances;
    sect = P.sect;
    at_done = P.at_done;
    between = P.between;
    patched = W.patched;
    printed = W.printed;
    steps = P.steps;
    attempts = P.attempts;
    fails = P.fails;
  }

  abbrev pub has_ended : Worker → Bool
  has_ended w =
      if is_resting w.phase
      then (if P.is_done w.number w.own then true else if last_ends w.records then true else nat_eq (length w.records) P.attempts)
      else false

  -- what is left of the attempt's section: all of it where none is under way
  abbrev pub rest_of : Worker → Phase → Walk
  rest_of w Resting = P.tree w.number (attempt w) w.own
  rest_of w (Walking c j) = c
  rest_of w Giving = P.tree w.number (attempt w) w.own

  abbrev pub readied_of : Phase → ℕ
  readied_of Resting = 0
  readied_of (Walking c j) = j
  readied_of Giving = 0

  abbrev pub fails_at : Option ℕ → ℕ → Bool
  fails_at None n = false
  fails_at (Some r) n = P.fails r n

  abbrev pub entry : Worker → List Hold → Own → List Data → Entry D
  entry w hs own ps = record { instance = w.number; attempt = attempt w; change = P.effect w.number w.own own (changes_of hs) ps }

  abbrev pub note : Worker → Kind → Note
  note w kind = record { instance = w.number; attempt = attempt w; kind = kind; position = 0 }

  -- an attempt is under way, or may begin
  abbrev pub Goes_on : Worker → Type 0
  Goes_on w = (has_ended w ≡ false) × (is_giving w.phase ≡ false)

  -- one turn, by what it did: one event of the attempt's section
  pub data Turned (w : Worker) (b : View D) (v : Worker) (c : View D) (t : Turn) : Type 0 where
    TIdle : (ended : has_ended w ≡ true) → (worker : v ≡ w) → (board : c ≡ b) → (answer : t ≡ Idle) → Turned w b v c t
    TGave : (r : ℕ) → (rs : List ℕ) → (giving : is_giving w.phase ≡ true) → (first : w.taken ≡ r ∷ rs) → (gives : Gives W r b c)
        → (worker : v ≡ record w { phase = if is_empty rs then Resting else Giving; taken = rs }) → (answer : t ≡ Went) → Turned w b v c t
    TTook : (on : Goes_on w) → (r : ℕ) → (leave : Data → Data) → (rest : Data → Walk) → (next : rest_of w w.phase ≡ Touch r leave rest) → (new : among r w.taken ≡ false)
        → (takes : Takes W r b c) → (worker : v ≡ record w { phase = Walking (Touch r leave rest) 0; taken = w.taken ++ (r ∷ []) }) → (answer : t ≡ Went) → Turned w b v c t
    THeld : (on : Goes_on w) → (r h : ℕ) → (leave : Data → Data) → (rest : Data → Walk) → (next : rest_of w w.phase ≡ Touch r leave rest) → (new : among r w.taken ≡ false)
        → (d : View D) → (take : TakeHeld W r h b d) → (board : c ≡ with_held (aborted d.held) d) → (worker : v ≡ finished (Held r h) w) → (answer : t ≡ Refused (IsHeld r h)) → Turned w b v c t
    TOperated : (on : Goes_on w) → (r : ℕ) → (leave : Data → Data) → (rest : Data → Walk) → (next : rest_of w w.phase ≡ Touch r leave rest)
        → (h : Hold) → (held : hold_at b.held r ≡ Some h) → (board : c ≡ with_held (put_back (rest h.content.current) (with_content r (record h.content { current = leave h.content.current }) b.held)) b)
        → (worker : v ≡ walks_on (settled (rest h.content.current)) 0 w) → (answer : t ≡ Went) → Turned w b v c t
    TReadied : (on : Goes_on w) → (o : Own) → (ps : List Data) → (next : rest_of w w.phase ≡ Stop (Goes o ps)) → (r : ℕ) → (at : nth w.taken (readied_of w.phase) ≡ Some r)
        → (h : Hold) → (held : hold_at b.held r ≡ Some h) → (up : fails_at h.content.number (raised h.content.count) ≡ false) → (board : c ≡ with_held (with_content r (counted h.content) b.held) b)
        → (worker : v ≡ walks_on (Stop (Goes o ps)) (suc (readied_of w.phase)) w) → (answer : t ≡ Went) → Turned w b v c t
    TDown : (on : Goes_on w) → (o : Own) → (ps : List Data) → (next : rest_of w w.phase ≡ Stop (Goes o ps)) → (r : ℕ) → (at : nth w.taken (readied_of w.phase) ≡ Some r)
        → (h : Hold) → (held : hold_at b.held r ≡ Some h) → (down : fails_at h.content.number (raised h.content.count) ≡ true) → (board : c ≡ with_held (aborted (with_content r (counted h.content) b.held)) b)
        → (worker : v ≡ finished (Down r (raised h.content.count)) w) → (answer : t ≡ IsDown r (raised h.content.count)) → Turned w b v c t
    TCommitted : (on : Goes_on w) → (o : Own) → (ps : List Data) → (next : rest_of w w.phase ≡ Stop (Goes o ps)) → (at : nth w.taken (readied_of w.phase) ≡ None)
        → (n : ℕ) → (d : View D) → (commits : Commits W (entry w b.held o ps) n b d) → (board : c ≡ with_held (committed d.held) d)
        → (worker : v ≡ record (finished (Step n) w) { own = o }) → (answer : t ≡ Committed n) → Turned w b v c t
    TFull : (on : Goes_on w) → (o : Own) → (ps : List Data) → (next : rest_of w w.phase ≡ Stop (Goes o ps)) → (at : nth w.taken (readied_of w.phase) ≡ None)
        → (n : ℕ) → (d : View D) → (full : JournalFull W n b d) → (board : c ≡ with_held (aborted d.held) d)
        → (worker : v ≡ finished (Full n) w) → (answer : t ≡ Refused (IsFull n)) → Turned w b v c t
    TNoted : (on : Goes_on w) → (kind : Kind) → (next : rest_of w w.phase ≡ Stop (Sticks kind)) → (n : ℕ) → (d : View D) → (notes : Notes W (note w kind) n (with_held (aborted b.held) b) d)
        → (board : c ≡ d) → (worker : v ≡ finished (Noted kind n) w) → (answer : t ≡ HasNoted kind n) → Turned w b v c t
    -- the journal is held by another, at a commit, behind all pre-commits, or at a note
    TJournal : (on : Goes_on w) → (e : End) → (next : rest_of w w.phase ≡ Stop e) → (at : (o : Own) (ps : List Data) → e ≡ Goes o ps → nth w.taken (readied_of w.phase) ≡ None) → (h : ℕ) → (d : View D) → (held : JournalHeld W h b d) → (board : c ≡ with_held (aborted d.held) d)
        → (worker : v ≡ finished (Held journal h) w) → (answer : t ≡ Refused (IsHeld journal h)) → Turned w b v c t
