-- A board of all instances, as it shows itself to each, and what the calls of one instance leave of it.
use Rattle.std.specs.Prelude.{◌≡◌, ◌≤◌, ◌-◌, ℕ, Bool, true, false, List, [], ◌∷◌, ◌++◌, length, Some, None}
use Rattle.pgo_base.specs.Data.{Data}
use Rattle.pgo_model.specs.Machine.{Entry, Note, among}
use Rattle.pgo_workers.specs.View.{Shown, IsHeld, View, World, Same, EachHold, resources_of, state}

-- whose board it is now, what each instance sees, the content of each resource, whoever holds it, and, since the board
-- became this instance's, whether a content was lent, and whether a resource was taken or given
pub record AllViews (D : Type 0) : Type 0 where
  pub current : ℕ
  pub view : ℕ → View D
  pub content : ℕ → Shown
  pub lent : Bool
  pub moved : Bool

-- each is of instance k
abbrev pub AllOf : {D : Type 0} → ℕ → List (Entry D) → Type 0
AllOf k [] = Unit {0}
AllOf k (e ∷ es) = (e.instance ≡ k) × AllOf k es

abbrev pub AllNotesOf : ℕ → List Note → Type 0
AllNotesOf k [] = Unit {0}
AllNotesOf k (n ∷ ns) = (n.instance ≡ k) × AllNotesOf k ns

-- it became instance k's, before k's turn
pub record Became {D : Type 0} (k : ℕ) (s t : AllViews D) : Type 0 where
  pub current : t.current ≡ k
  pub views : (j : ℕ) → t.view j ≡ record (s.view j) { last = None }
  pub content : (r : ℕ) → t.content r ≡ s.content r

-- what calls of the current instance leave
pub record Leaves {D : Type 0} (s t : AllViews D) : Type 0 where
  pub current : t.current ≡ s.current
  pub same : (j : ℕ) → Same (s.view j) (t.view j)
  pub told : (j : ℕ) → (t.view j).told ≡ (s.view j).told
  -- others hold what they held, as it was
  pub held : (j : ℕ) → (j ≡ s.current → ⊥) → (t.view j).held ≡ (s.view j).held
  -- the journal grew by the current instance alone
  pub entries_more : List (Entry D)
  pub notes_more : List Note
  pub entries : (j : ℕ) → (t.view j).entries ≡ (s.view j).entries ++ entries_more
  pub notes : (j : ℕ) → (t.view j).notes ≡ (s.view j).notes ++ notes_more
  pub entries_of : AllOf s.current entries_more
  pub notes_of : AllNotesOf s.current notes_more
  -- what no call lent is as it was
  pub lent : t.lent ≡ false → (s.lent ≡ false) × ((r : ℕ) → t.content r ≡ s.content r)
  -- where nothing was taken or given, the same is held, and what the current instance doesn't hold is as it was
  pub moved : t.moved ≡ false → (s.moved ≡ false) × (resources_of (t.view s.current).held ≡ resources_of (s.view s.current).held)
  pub content : t.moved ≡ false → (r : ℕ) → among r (resources_of (s.view s.current).held) ≡ false → t.content r ≡ s.content r

-- the content has this value, as its base and now
pub record HasValue (c : Shown) (v : Data) : Type 0 where
  pub base : c.base ≡ v
  pub current : c.current ≡ v

-- what holds of a board of all instances at any time
pub record IsBoard {S D : Type 0} (W : World S D) (s : AllViews D) : Type 0 where
  pub instance : (j : ℕ) → (s.view j).instance ≡ j
  -- all see one journal, which has room
  pub entries : (i j : ℕ) → (s.view i).entries ≡ (s.view j).entries
  pub notes : (i j : ℕ) → (s.view i).notes ≡ (s.view j).notes
  pub room : (j : ℕ) → length (s.view j).entries ≤ (s.view j).steps
  -- a resource has one holder
  pub apart : (i j r : ℕ) → among r (resources_of (s.view i).held) ≡ true → among r (resources_of (s.view j).held) ≡ true → i ≡ j
  -- who holds a resource is an instance, or 0 where there is none
  pub holders : (j r : ℕ) → among r (resources_of (s.view j).held) ≡ true → j ≤ W.instances - 1
  -- what nobody holds has the value of the journal's last state
  pub free : (r : ℕ) → W.is_resource r ≡ true → ((i : ℕ) → among r (resources_of (s.view i).held) ≡ false) → (j : ℕ) → HasValue (s.content r) (W.value (state W (s.view j).entries (length (s.view j).entries)) r)
  -- what is held has the value of the journal's last state, and shows its content
  pub values : (j : ℕ) → EachHold (λ h. W.value (state W (s.view j).entries (length (s.view j).entries)) h.resource ≡ h.value) (s.view j).held
  pub contents : (j : ℕ) → EachHold (λ h. h.content ≡ s.content h.resource) (s.view j).held
  -- who is named by the current instance's last refusal holds the resource
  pub last : (r h : ℕ) → (s.view s.current).last ≡ Some (IsHeld r h) → among r (resources_of (s.view h).held) ≡ true
