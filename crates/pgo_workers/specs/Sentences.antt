-- What a worker's records say of its board and of the journal, and what worker and board meet in.
use Rattle.std.specs.Prelude.{◌≡◌, ◌≤◌, ◌<◌, ℕ, suc, true, false, List, [], ◌∷◌, ◌++◌, length, map, Option, Some, None, ◌⊎◌}
use Rattle.std.specs.List.{AllByRecursion}
use Rattle.pgo_base.specs.Data.{Data}
pub use Rattle.pgo_base.specs.Lists.{joined as flat}
use Rattle.pgo_model.specs.Outcome.{Kind, Next, Stuck}
use Rattle.pgo_model.specs.Machine.{Entry, Note, Record, Step, Noted, Held, Down, Full, among, nth, last_ends}
use Rattle.pgo_model.specs.Accounts.{ComesAfter, journal}
use Rattle.pgo_workers.specs.Walk.{Own, Goes, Sticks, Walk, Stop, Touch, At, Agrees, Along, Within, goes_back, visits, ending, final, taken_after}
use Rattle.pgo_workers.specs.View.{Hold, Refusal, IsHeld, IsFull, Taking, Told, View, World, EachHold, IsSteady, MayNumber, Once, changed, places, Changed, resources_of, values_of, nows_of, passing, notes_of, state, own_seen}
use Rattle.pgo_workers.specs.Worker.{Program, Change, changes_of, Phase, Resting, Walking, Giving, Worker, attempt}

-- the Held and Full records
abbrev pub refusals : List Record → List Refusal
refusals [] = []
refusals (Step n ∷ xs) = refusals xs
refusals (Noted kind p ∷ xs) = refusals xs
refusals (Held r h ∷ xs) = IsHeld r h ∷ refusals xs
refusals (Down r o ∷ xs) = refusals xs
refusals (Full n ∷ xs) = IsFull n ∷ refusals xs

-- the Down records
abbrev pub downs : List Record → List (ℕ × ℕ)
downs [] = []
downs (Step n ∷ xs) = downs xs
downs (Noted kind p ∷ xs) = downs xs
downs (Held r h ∷ xs) = downs xs
downs (Down r o ∷ xs) = (r, o) ∷ downs xs
downs (Full n ∷ xs) = downs xs

-- the members of the first list stand in the second, in order
pub data Sub {A : Type 0} : List A → List A → Type 0 where
  SNone : (ys : List A) → Sub [] ys
  SHere : (x : A) → {xs ys : List A} → Sub xs ys → Sub (x ∷ xs) (x ∷ ys)
  SOver : (y : A) → {xs ys : List A} → Sub xs ys → Sub xs (y ∷ ys)

abbrev pub last_of : {A : Type 0} → List A → Option A
last_of [] = None
last_of (x ∷ []) = Some x
last_of (x ∷ (y ∷ l)) = last_of (y ∷ l)

-- the resources that were taken with Ok
abbrev pub granted : List Taking → List ℕ
granted [] = []
granted (m ∷ ms) = (elim (m.refusal) as (λ o. List ℕ) [ None ↦ m.resource ∷ granted ms | Some h ↦ granted ms ])

-- the trace has r, with `others` taken before
abbrev pub ReachedAfter : ℕ → List ℕ → List ℕ → Type 0
ReachedAfter r others trace = (p q : List ℕ) × (trace ≡ p ++ (r ∷ q)) × (taken_after p [] ≡ others)

-- the resources that were held besides, at an answered take: those of the values, without its own where it was granted
abbrev pub OthersAt : Taking → List ℕ → Type 0
OthersAt m others = (places m.held ≡ (elim (m.refusal) as (λ o. List ℕ) [ None ↦ others ++ (m.resource ∷ []) | Some h ↦ others ])) × (among m.resource others ≡ false)

-- on all values that agree with the member, the walk has its resource, after the others then held
abbrev pub Shows : Walk → Taking → Type 0
Shows w m = (others : List ℕ) × OthersAt m others × ((f : ℕ → Data) → Agrees m.held f → ReachedAfter m.resource others (visits w f))

abbrev pub EachTaking : (Taking → Type 0) → List Taking → Type 0
EachTaking = AllByRecursion

-- on all values that agree, the section's code ends without a note
abbrev pub Ends : Walk → List At → Type 0
Ends w vs = (f : ℕ → Data) → Agrees vs f → (o : Own) × (ps : List Data) × (ending w f ≡ Goes o ps)

-- the values at the last take of an attempt
abbrev pub held_last : List Taking → List At
held_last ms = (elim (last_of ms) as (λ o. List At) [ None ↦ [] | Some m ↦ m.held ])

-- what the takes of an attempt say of its record
abbrev pub Closes : Walk → List Taking → Record → Type 0
Closes w ms (Step n) = Unit {0}
Closes w ms (Noted kind p) = Unit {0}
Closes w ms (Held r h) =
    (r ≡ journal) ⊎ ((m : Taking) × (last_of ms ≡ Some m) × (m.resource ≡ r) × (m.refusal ≡ Some h) × (granted ms ≡ places m.held))
Closes w ms (Down r o) = Ends w (held_last ms) × (among r (granted ms) ≡ true) × ((f : ℕ → Data) → Agrees (held_last ms) f → among r (visits w f) ≡ true)
Closes w ms (Full n) = Ends w (held_last ms)

-- what is taken, with the values before and after
abbrev pub changes_at : List ℕ → (ℕ → Data) → (ℕ → Data) → List Change
changes_at [] f g = []
changes_at (r ∷ rs) f g = record { resource = r; before = f r; after = g r } ∷ changes_at rs f g

module _ {S D : Type 0} (W : World S D) (Good : S → Type 0) where
  -- each state along the entries is good
  abbrev pub AllGood : List (Entry D) → Type 0
  AllGood entries = (q : ℕ) → q ≤ length entries → Good (state W entries q)

  -- the own components of an attempt were there after some entries, if the states are good
  abbrev pub OwnThen : ℕ → List (Entry D) → Own → Type 0
  OwnThen k entries o = (p : ℕ) × (p ≤ length entries) × (AllGood entries → W.own (state W entries p) k ≡ o)

-- these are the own components of instance k
abbrev pub IsOwn : {S D : Type 0} → World S D → ℕ → Own → Type 0
IsOwn W k o = map (λ p. p.0) o ≡ W.names k

module _ {S D : Type 0} (W : World S D) (P : Program S D) (Reaches : ℕ → ℕ → Type 0) (Good : S → Type 0) where
  -- what record i + 1 of k claims of the journal
  abbrev pub Tells : ℕ → List (Entry D) → List Note → ℕ → Record → Type 0
  Tells k entries notes i (Step n) =
      (p : ℕ) × (e : Entry D) × (n ≡ suc p) × (nth entries p ≡ Some e) × (e.instance ≡ k) × (e.attempt ≡ suc i)
      × (Good (state W entries p) → (P.sect k (suc i) (state W entries p)).end ≡ Next (state W entries (suc p)) (W.printed e.change))
  Tells k entries notes i (Noted kind p) =
      (j : ℕ) × (nth notes j ≡ Some (record { instance = k; attempt = suc i; kind = kind; position = p })) × (p ≤ length entries)
      × (Good (state W entries p) → (P.sect k (suc i) (state W entries p)).end ≡ Stuck kind)
  Tells k entries notes i (Held r h) = (h ≡ k → ⊥) × (h < W.instances) × (Reaches k r ⊎ (r ≡ journal))
  Tells k entries notes i (Down r o) = P.fails r o ≡ true
  Tells k entries notes i (Full n) = (n ≡ P.steps) × (length entries ≡ P.steps)

  -- the records of k against the journal: each tells what became of its attempt, the entries and notes of k are those that its
  -- records name, in order, and there is room
  pub record AccountsOfOne (k : ℕ) (es : List (Entry D)) (ns : List Note) (xs : List Record) : Type 0 where
    pub told : (i : ℕ) (x : Record) → nth xs i ≡ Some x → Tells k es ns i x
    pub steps : (p : ℕ) (e : Entry D) → nth es p ≡ Some e → e.instance ≡ k → (i : ℕ) × (e.attempt ≡ suc i) × (nth xs i ≡ Some (Step (suc p)))
    pub notes : (j : ℕ) (n : Note) → nth ns j ≡ Some n → n.instance ≡ k → (i : ℕ) × (n.attempt ≡ suc i) × (nth xs i ≡ Some (Noted n.kind n.position))
    pub notes_once : (i j : ℕ) (x y : Note) → nth ns i ≡ Some x → nth ns j ≡ Some y → x.instance ≡ k → y.instance ≡ k → x.attempt ≡ y.attempt → i ≡ j
    pub ordered : (i j : ℕ) (x y : Record) → nth xs i ≡ Some x → nth xs j ≡ Some y → i < j → ComesAfter y x
    pub bounded : length xs ≤ P.attempts
    pub last : (i n : ℕ) → nth xs i ≡ Some (Full n) → suc i ≡ length xs
    pub room : length es ≤ P.steps
    -- so many notes are of k at most
    pub share : notes_of k ns ≤ length xs

module _ {S D : Type 0} (W : World S D) (P : Program S D) (Reaches : ℕ → ℕ → Type 0) (Good : S → Type 0) where
  -- a recorded attempt: the own components from which it went, which weren't done and stood after some entries, what its answered
  -- takes show, and what they say of its record
  pub record Past (k : ℕ) (entries : List (Entry D)) (i : ℕ) (x : Record) (ms : List Taking) : Type 0 where
    pub own : Own
    pub then_own : OwnThen W Good k entries own
    pub not_done : P.is_done k own ≡ false
    pub members : EachTaking (λ m. (m.own ≡ own) × Shows (P.tree k (suc i) own) m) ms
    pub closes : Closes (P.tree k (suc i) own) ms x

  -- where the board tells its takes, they are those of the recorded attempts, in order, and then `now`, those of the attempt under way
  pub record History (k : ℕ) (entries : List (Entry D)) (records : List Record) (ts now : List Taking) : Type 0 where
    pub attempts : List (List Taking)
    pub takes : ts ≡ flat attempts ++ now
    pub as_many : length attempts ≡ length records
    pub past : (i : ℕ) (x : Record) (ms : List Taking) → nth records i ≡ Some x → nth attempts i ≡ Some ms → Past k entries i x ms

  -- the attempt under way: behind the accesses p there stands c
  pub record Under (w : Worker) (b : View D) (c : Walk) (readied : ℕ) : Type 0 where
    pub accesses : List ℕ
    pub along : Along (P.tree w.number (attempt w) w.own) (values_of b.held) accesses c (nows_of b.held)
    -- what is held is what was accessed; or one resource more, which is accessed next
    pub holds : (taken_after accesses [] ≡ resources_of b.held)
        ⊎ ((r : ℕ) × (leave : Data → Data) × (rest : Data → Walk) × (c ≡ Touch r leave rest) × (taken_after accesses [] ++ (r ∷ []) ≡ resources_of b.held) × (among r accesses ≡ false))
    pub within : Within (Reaches w.number) (IsOwn W w.number) c
    pub may : (last_ends w.records ≡ false) × (length w.records < P.attempts)
    pub not_done : P.is_done w.number w.own ≡ false
    -- so many of the taken resources are pre-committed, none before the code has ended
    pub readied_below : readied ≤ length w.taken
    pub readied_at : (readied ≡ 0) ⊎ ((o : Own) × (ps : List Data) × (c ≡ Stop (Goes o ps)))

  -- the answered takes of the attempt under way
  pub record Taken (w : Worker) (b : View D) (now : List Taking) : Type 0 where
    pub members : EachTaking (λ m. (m.own ≡ w.own) × Shows (P.tree w.number (attempt w) w.own) m) now
    pub granted_is : granted now ≡ resources_of b.held
    pub last_held : held_last now ≡ values_of b.held

  abbrev pub PassedBy : Phase → List Record → List Hold → List (ℕ × ℕ) → Type 0
  PassedBy Resting xs hs ps = Sub (downs xs) ps
  PassedBy (Walking c j) xs hs ps = Sub (downs xs) ps
  PassedBy Giving xs hs ps = Sub (downs xs) (ps ++ flat (map passing hs))

  abbrev pub Place : Worker → View D → Phase → Type 0
  Place w b Resting = w.taken ≡ []
  Place w b (Walking c j) = Under w b c j
  Place w b Giving = EachHold (λ h. h.content.current ≡ h.value) b.held × (w.taken ≡ [] → ⊥)

  abbrev pub TakenNow : Worker → View D → Phase → List Taking → Type 0
  TakenNow w b Resting now = now ≡ []
  TakenNow w b (Walking c j) now = Taken w b now
  TakenNow w b Giving now = now ≡ []

  pub record Lists (w : Worker) (b : View D) (t : Told) : Type 0 where
    -- the Held and Full records are the refusals that the board told, in order
    pub refused : refusals w.records ≡ t.refused
    -- the Down records are among the pre-commits that it told as passed, in order
    pub passed : PassedBy w.phase w.records b.held t.passed
    -- of a worker that has dropped no attempt, what its answered takes say
    pub now : List Taking
    pub history : w.dropped ≡ false → History w.number b.entries w.records t.takes now
    pub taken_now : w.dropped ≡ false → TakenNow w b w.phase now

  abbrev pub Sound : Hold → Type 0
  Sound h = IsSteady h × (h.count ≤ h.content.count) × MayNumber h × (W.is_resource h.resource ≡ true)

  -- worker and board meet
  pub record Meets (w : Worker) (b : View D) : Type 0 where
    pub number : w.number < P.instances
    pub instance : b.instance ≡ w.number
    pub steps : b.steps ≡ P.steps
    pub share : P.attempts ≤ b.share
    pub taken : w.taken ≡ resources_of b.held
    pub once : Once w.taken
    pub sound : EachHold Sound b.held
    pub own : w.own ≡ own_seen W b
    pub own_then : OwnThen W Good w.number b.entries w.own
    pub accounts : AccountsOfOne W P Reaches Good w.number b.entries b.notes w.records
    pub place : Place w b w.phase
    pub lists : (t : Told) → b.told ≡ Some t → Lists w b t

  -- what a program owes: its sections are those of the rules, on good states, where the instance isn't done
  pub record Runs : Type 0 where
    pub instances : W.instances ≡ P.instances
    pub trace : (k a : ℕ) (s : S) → Good s → (P.sect k a s).trace ≡ visits (P.tree k a (W.own s k)) (W.value s)
    pub stuck : (k a : ℕ) (s : S) (kind : Kind) → Good s → k < P.instances → P.at_done k s ≡ false → ending (P.tree k a (W.own s k)) (W.value s) ≡ Sticks kind → (P.sect k a s).end ≡ Stuck kind
    pub within : (k a : ℕ) (o : Own) → IsOwn W k o → Within (Reaches k) (IsOwn W k) (P.tree k a o)
    -- an attempt begins at an access or an end
    pub settles : (k a : ℕ) (o : Own) → IsOwn W k o → goes_back (P.tree k a o) ≡ false
    pub reaches : (k r : ℕ) → Reaches k r → W.is_resource r ≡ true
    pub done : (k : ℕ) (s : S) → Good s → P.at_done k s ≡ P.is_done k (W.own s k)
    -- a section that goes on leads to the state with the entry that the worker makes of it
    pub next : (k a : ℕ) (s : S) (o : Own) (ps : List Data) → Good s → k < P.instances → P.at_done k s ≡ false → ending (P.tree k a (W.own s k)) (W.value s) ≡ Goes o ps
        → (P.sect k a s).end ≡ Next (W.patched s (P.effect k (W.own s k) o (changes_at (taken_after (visits (P.tree k a (W.own s k)) (W.value s)) []) (W.value s) (final (P.tree k a (W.own s k)) (W.value s))) ps)) ps
    pub printed : (k : ℕ) (o o' : Own) (cs : List Change) (ps : List Data) → W.printed (P.effect k o o' cs ps) ≡ ps
    -- the own components have the instance's names, in every state and behind every entry
    pub own_is : (k : ℕ) (s : S) → IsOwn W k (W.own s k)
    pub owned_is : (k : ℕ) (o : Own) (d : D) → IsOwn W k o → IsOwn W k (W.owned o d)
    -- what an entry says of the own components
    pub owned : (k : ℕ) (o o' : Own) (cs : List Change) (ps : List Data) → IsOwn W k o → IsOwn W k o' → W.owned o (P.effect k o o' cs ps) ≡ o'
    pub own_patched : (k : ℕ) (s : S) (o o' : Own) (hs : List Hold) (ps : List Data) → Good s → IsOwn W k o' → Once (resources_of hs) → EachHold (λ h. W.is_resource h.resource ≡ true) hs → W.own s k ≡ o
        → EachHold (λ h. W.value s h.resource ≡ h.content.base) hs → W.own (W.patched s (P.effect k o o' (changes_of hs) ps)) k ≡ o'
    -- and of the held resources
    pub renews : (k : ℕ) (o o' : Own) (hs : List Hold) (ps : List Data) → Once (resources_of hs) → EachHold (λ h. changed (W.changes (P.effect k o o' (changes_of hs) ps)) h.resource h.content.base ≡ h.content.current) hs
    pub may_commit : (k : ℕ) (o o' : Own) (hs : List Hold) (ps : List Data) → Once (resources_of hs) → Once (places (W.changes (P.effect k o o' (changes_of hs) ps))) × Changed hs (W.changes (P.effect k o o' (changes_of hs) ps))
    pub is_of : (k : ℕ) (o o' : Own) (hs : List Hold) (ps : List Data) → IsOwn W k o → IsOwn W k o' → Once (resources_of hs) → EachHold (λ h. W.is_resource h.resource ≡ true) hs → W.is_of k (P.effect k o o' (changes_of hs) ps) ≡ true
