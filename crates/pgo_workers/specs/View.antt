-- What a board shows to contracts, and what its calls do.
use Rattle.std.specs.Prelude.{◌≡◌, ◌≤◌, ◌<◌, ◌+◌, ◌-◌, ℕ, zero, suc, Bool, true, false, List, [], ◌∷◌, ◌++◌, length, Option, Some, None, ◌⊎◌, if◌then◌else◌, nat_eq, nat_lt}
use Rattle.std.specs.List.{AllByRecursion}
use Rattle.pgo_base.specs.Data.{Data}
use Rattle.pgo_base.specs.Lookup.{Name}
use Rattle.pgo_model.specs.Machine.{Entry, Note, among}
use Rattle.pgo_model.specs.Accounts.{journal}
use Rattle.pgo_workers.specs.Walk.{At, Own}

-- what a content shows: its base, its value now, its count of pre-commits, and its number or none
pub record Shown : Type 0 where
  pub base : Data
  pub current : Data
  pub count : ℕ
  pub number : Option ℕ

-- one more, up to the last value of 64 bits
abbrev pub raised : ℕ → ℕ
raised n = if nat_lt n 18446744073709551615 then n + 1 else n

-- a held resource: its value, its count of pre-commits at the take, and its content
pub record Hold : Type 0 where
  pub resource : ℕ
  pub value : Data
  pub count : ℕ
  pub content : Shown

pub data Refusal : Type 0 where
  IsHeld : (resource holder : ℕ) → Refusal
  IsFull : (entries : ℕ) → Refusal

-- an answered take: Ok, or the holder that it was refused by; the values held after it, and the instance's own
-- components then
pub record Taking : Type 0 where
  pub resource : ℕ
  pub refusal : Option ℕ
  pub held : List At
  pub own : Own

-- what a board may leave untold
pub record Told : Type 0 where
  pub refused : List Refusal
  pub takes : List Taking
  pub passed : List (ℕ × ℕ)

pub record View (D : Type 0) : Type 0 where
  pub instance : ℕ
  -- how many resources there are, at how many entries the journal is full, and how many notes this instance may add
  pub resources : ℕ
  pub steps : ℕ
  pub share : ℕ
  -- in the order of taking
  pub held : List Hold
  -- the journal as this instance has seen it
  pub entries : List (Entry D)
  pub notes : List Note
  pub told : Option Told
  -- what the latest take, commit or note was refused by
  pub last : Option Refusal

abbrev pub hold_at : List Hold → ℕ → Option Hold
hold_at [] r = None
hold_at (h ∷ hs) r = if nat_eq h.resource r then Some h else hold_at hs r

abbrev pub without : List Hold → ℕ → List Hold
without [] r = []
without (h ∷ hs) r = if nat_eq h.resource r then without hs r else h ∷ without hs r

abbrev pub resources_of : List Hold → List ℕ
resources_of [] = []
resources_of (h ∷ hs) = h.resource ∷ resources_of hs

abbrev pub values_of : List Hold → List At
values_of [] = []
values_of (h ∷ hs) = (h.resource, h.value) ∷ values_of hs

abbrev pub nows_of : List Hold → List At
nows_of [] = []
nows_of (h ∷ hs) = (h.resource, h.content.current) ∷ nows_of hs

-- with another content at r
abbrev pub with_content : ℕ → Shown → List Hold → List Hold
with_content r c [] = []
with_content r c (h ∷ hs) = if nat_eq h.resource r then record h { content = c } ∷ hs else h ∷ with_content r c hs

-- each content as it was before what was written to it
abbrev pub aborted : List Hold → List Hold
aborted [] = []
aborted (h ∷ hs) = record h { content = record h.content { current = h.content.base } } ∷ aborted hs

-- each content with what was written to it as its base
abbrev pub committed : List Hold → List Hold
committed [] = []
committed (h ∷ hs) = record h { content = record h.content { base = h.content.current } } ∷ committed hs

-- what holds of each hold
abbrev pub EachHold : (Hold → Type 0) → List Hold → Type 0
EachHold = AllByRecursion

abbrev pub MayNumber : Hold → Type 0
MayNumber h = (h.content.number ≡ None) ⊎ (h.content.number ≡ Some h.resource)

-- its content's base is its value
abbrev pub IsSteady : Hold → Type 0
IsSteady h = h.content.base ≡ h.value

-- the pairs (r, n) with n from count + 1, so many
abbrev pub stretch : ℕ → ℕ → ℕ → List (ℕ × ℕ)
stretch r count zero = []
stretch r count (suc n) = (r, suc count) ∷ stretch r (suc count) n

-- the pairs that the give of h adds
abbrev pub passing : Hold → List (ℕ × ℕ)
passing h = stretch h.resource h.count (h.content.count - h.count)

-- no entry, or note, is of instance k
abbrev pub Others : {D : Type 0} → ℕ → List (Entry D) → Type 0
Others k [] = Unit {0}
Others k (e ∷ es) = (e.instance ≡ k → ⊥) × Others k es

abbrev pub OtherNotes : ℕ → List Note → Type 0
OtherNotes k [] = Unit {0}
OtherNotes k (n ∷ ns) = (n.instance ≡ k → ⊥) × OtherNotes k ns

abbrev pub notes_of : ℕ → List Note → ℕ
notes_of k [] = 0
notes_of k (n ∷ ns) = if nat_eq n.instance k then suc (notes_of k ns) else notes_of k ns

-- the state after the first n entries
abbrev pub along : {S D : Type 0} → (S → D → S) → S → List (Entry D) → ℕ → S
along f s l zero = s
along f s [] (suc n) = s
along f s (e ∷ l) (suc n) = along f (f s e.change) l n

-- what a board needs to say of the journal: its start, what entries lead to and print, a resource's component in a state, an
-- instance's own components in a state and behind an entry of its own, and the changes of resources that an entry has
pub record World (S D : Type 0) : Type 0 where
  pub start : S
  -- the state after an entry
  pub patched : S → D → S
  pub printed : D → List Data
  pub value : S → ℕ → Data
  pub own : S → ℕ → Own
  pub owned : Own → D → Own
  pub changes : D → List At
  -- how many instances there are
  pub instances : ℕ
  -- the names of an instance's own components, in order
  pub names : ℕ → List Name
  -- whether a resource has the number
  pub is_resource : ℕ → Bool
  -- whether each component that it changes stands in it once, and is a resource or one of the instance's own
  pub is_of : ℕ → D → Bool

-- what no call changes
pub record Same {D : Type 0} (b c : View D) : Type 0 where
  pub instance : c.instance ≡ b.instance
  pub resources : c.resources ≡ b.resources
  pub steps : c.steps ≡ b.steps
  pub share : c.share ≡ b.share

abbrev pub untold : Option Told → (Told → Told) → Option Told
untold None f = None
untold (Some t) f = Some (f t)

abbrev pub refuses : Refusal → Told → Told
refuses x t = record t { refused = t.refused ++ (x ∷ []) }

abbrev pub answers : Taking → Told → Told
answers m t = record t { takes = t.takes ++ (m ∷ []) }

-- the value that an entry leaves at r, or the one before it
abbrev pub changed : List At → ℕ → Data → Data
changed [] r x = x
changed (v ∷ vs) r x = if nat_eq v.0 r then v.1 else changed vs r x

abbrev pub renewed : List At → List Hold → List Hold
renewed cs [] = []
renewed cs (h ∷ hs) = record h { value = changed cs h.resource h.value } ∷ renewed cs hs

abbrev pub Changed : List Hold → List At → Type 0
Changed hs [] = Unit {0}
Changed hs (v ∷ vs) = ((h : Hold) × (hold_at hs v.0 ≡ Some h) × (h.content.current ≡ v.1)) × Changed hs vs

abbrev pub Once : List ℕ → Type 0
Once [] = Unit {0}
Once (r ∷ rs) = (among r rs ≡ false) × Once rs

-- the resources of the values
abbrev pub places : List At → List ℕ
places [] = []
places (v ∷ vs) = v.0 ∷ places vs

abbrev pub positioned : Note → ℕ → Note
positioned n p = record { instance = n.instance; attempt = n.attempt; kind = n.kind; position = p }

pub record MayGive {D : Type 0} (r : ℕ) (b : View D) : Type 0 where
  pub hold : Hold
  pub is_held : hold_at b.held r ≡ Some hold
  pub base : hold.content.base ≡ hold.value
  pub current : hold.content.current ≡ hold.value
  pub count : hold.count ≤ hold.content.count
  pub number : MayNumber hold

module _ {S D : Type 0} (W : World S D) where
  abbrev pub state : List (Entry D) → ℕ → S
  state l n = along W.patched W.start l n

  -- what the last entry of instance k left of its own components, from o
  abbrev pub own_left : ℕ → Own → List (Entry D) → Own
  own_left k o [] = o
  own_left k o (e ∷ es) = own_left k (if nat_eq e.instance k then W.owned o e.change else o) es

  abbrev pub own_seen : View D → Own
  own_seen b = own_left b.instance (W.own W.start b.instance) b.entries

  -- the journal that c has seen goes on from that of b, by other instances alone
  pub record Grows (b c : View D) : Type 0 where
    pub entries_more : List (Entry D)
    pub notes_more : List Note
    pub entries : c.entries ≡ b.entries ++ entries_more
    pub notes : c.notes ≡ b.notes ++ notes_more
    pub others : Others b.instance entries_more
    pub other_notes : OtherNotes b.instance notes_more

  -- `take`: r comes, with its value, or another instance holds it
  pub record Takes (r : ℕ) (b c : View D) : Type 0 where
    pub same : Same b c
    pub grows : Grows b c
    pub value : Data
    pub count : ℕ
    pub number : Option ℕ
    pub numbered : (number ≡ None) ⊎ (number ≡ Some r)
    pub held : c.held ≡ b.held ++ (record { resource = r; value = value; count = count; content = record { base = value; current = value; count = count; number = number } } ∷ [])
    pub told : c.told ≡ untold b.told (answers (record { resource = r; refusal = None; held = values_of c.held; own = own_seen c }))
    pub last : c.last ≡ None

  pub record TakeHeld (r holder : ℕ) (b c : View D) : Type 0 where
    pub same : Same b c
    pub grows : Grows b c
    pub other : holder ≡ b.instance → ⊥
    pub there : holder < W.instances
    pub held : c.held ≡ b.held
    pub told : c.told ≡ untold b.told (λ t. answers (record { resource = r; refusal = Some holder; held = values_of c.held; own = own_seen c }) (refuses (IsHeld r holder) t))
    pub last : c.last ≡ Some (IsHeld r holder)

  -- the conditions of `commit` and `note`
  pub record MayCommit (e : Entry D) (b : View D) : Type 0 where
    pub instance : e.instance ≡ b.instance
    pub steady : EachHold IsSteady b.held
    pub is_of : W.is_of e.instance e.change ≡ true
    pub once : Once (places (W.changes e.change))
    pub changes : Changed b.held (W.changes e.change)

  pub record MayNote (n : Note) (b : View D) : Type 0 where
    pub instance : n.instance ≡ b.instance
    pub steady : EachHold IsSteady b.held
    pub share : notes_of b.instance b.notes < b.share

  -- the state before the record that was accepted behind `l`: each held content's base is its component, and the own
  -- components are those that the last own entry left
  pub record StandsAt (b : View D) (l : List (Entry D)) : Type 0 where
    pub values : EachHold (λ h. W.value (state l (length l)) h.resource ≡ h.content.base) b.held
    pub own : W.own (state l (length l)) b.instance ≡ own_seen b

  pub record Commits (e : Entry D) (n : ℕ) (b c : View D) : Type 0 where
    pub same : Same b c
    pub entries_more : List (Entry D)
    pub notes_more : List Note
    pub others : Others b.instance entries_more
    pub other_notes : OtherNotes b.instance notes_more
    pub entries : c.entries ≡ (b.entries ++ entries_more) ++ (e ∷ [])
    pub notes : c.notes ≡ b.notes ++ notes_more
    pub number : n ≡ length c.entries
    pub stands : StandsAt b (b.entries ++ entries_more)
    pub held : c.held ≡ renewed (W.changes e.change) b.held
    pub told : c.told ≡ b.told
    pub last : c.last ≡ None

  pub record Notes (n : Note) (position : ℕ) (b c : View D) : Type 0 where
    pub same : Same b c
    pub entries_more : List (Entry D)
    pub notes_more : List Note
    pub others : Others b.instance entries_more
    pub other_notes : OtherNotes b.instance notes_more
    pub entries : c.entries ≡ b.entries ++ entries_more
    pub notes : c.notes ≡ (b.notes ++ notes_more) ++ (positioned n position ∷ [])
    pub position_is : position ≡ length c.entries
    pub stands : StandsAt b (b.entries ++ entries_more)
    pub held : c.held ≡ b.held
    pub told : c.told ≡ b.told
    pub last : c.last ≡ None

  -- another instance has the journal
  pub record JournalHeld (holder : ℕ) (b c : View D) : Type 0 where
    pub same : Same b c
    pub grows : Grows b c
    pub other : holder ≡ b.instance → ⊥
    pub there : holder < W.instances
    pub held : c.held ≡ b.held
    pub told : c.told ≡ untold b.told (refuses (IsHeld journal holder))
    pub last : c.last ≡ Some (IsHeld journal holder)

  pub record JournalFull (n : ℕ) (b c : View D) : Type 0 where
    pub same : Same b c
    pub grows : Grows b c
    pub full : n ≡ b.steps
    pub is_full : length c.entries ≡ b.steps
    pub held : c.held ≡ b.held
    pub told : c.told ≡ untold b.told (refuses (IsFull n))
    pub last : c.last ≡ Some (IsFull n)

  pub record Gives (r : ℕ) (b c : View D) : Type 0 where
    pub same : Same b c
    pub grows : Grows b c
    pub held : c.held ≡ without b.held r
    pub told : (h : Hold) → hold_at b.held r ≡ Some h → c.told ≡ untold b.told (λ t. record t { passed = t.passed ++ passing h })
    pub last : c.last ≡ b.last
