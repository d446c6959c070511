-- What a walk does on the contents of a state, and what it comes to.
use Rattle.std.specs.Prelude.{◌≡◌, ◌<◌, ℕ, zero, suc, Bool, true, false, List, [], ◌∷◌, length, Option, Some, None, if◌then◌else◌}
use Rattle.pgo_base.specs.Data.{Data}
use Rattle.pgo_base.specs.Lookup.{Vars, find}
use Rattle.pgo_model.specs.Core.{is_place}
use Rattle.pgo_model.specs.Machine.{nth}
use Rattle.pgo_model.specs.Outcome.{Blocked, NoValue, AssertFails, Many}
use Rattle.pgo_model.specs.Written.{pc, done}
use Rattle.pgo_resource.specs.PlainRows.{shown_at}
use Rattle.pgo_workers.specs.Programs.{Trees}
use Rattle.pgo_workers.specs.View.{Shown}
use Rattle.pgo_workers.specs.Walk.{Own, End, Goes, Sticks, Walk, Within, goes_back, ending, ending_from, visits_from}
use Rattle.pgo_workers.specs.Worlds.{Layout, own_in, value_in}

module _ {R : Type 0} (shows : R → Shown) where
  -- the bases of contents, and what they are now
  abbrev pub bases : List R → ℕ → Data
  bases xs r = (shown_at shows xs r).base

  abbrev pub currents : List R → ℕ → Data
  currents xs r = (shown_at shows xs r).current

  -- each content, by its base and by what it is now, is its component in the state
  abbrev pub AreContentsIn : Layout → Vars → List R → Type 0
  AreContentsIn y s xs = (r : ℕ) (c : R) → nth xs r ≡ Some c → ((shows c).base ≡ value_in y s r) × ((shows c).current ≡ value_in y s r)

-- these are the own components of the instances in the state
abbrev pub AreOwnsIn : Layout → Vars → List Own → Type 0
AreOwnsIn y s os = (k : ℕ) (o : Own) → nth os k ≡ Some o → o ≡ own_in y s k

-- the section is Blocked
abbrev pub is_blocked_end : End → Bool
is_blocked_end (Goes o ps) = false
is_blocked_end (Sticks Blocked) = true
is_blocked_end (Sticks NoValue) = false
is_blocked_end (Sticks AssertFails) = false
is_blocked_end (Sticks Many) = false

-- each access is of one of the first n resources
abbrev pub WithinFirst : ℕ → Walk → Type 0
WithinFirst n = Within (λ r. r < n) (λ o. Unit {0})

-- so it is, and it begins at an access or an end
pub record Begins (n : ℕ) (w : Walk) : Type 0 where
  pub within : WithinFirst n w
  pub settled : goes_back w ≡ false

-- one access more was made of w on f, where the bases are s, and v on g is left
pub record Went (n : ℕ) (s : ℕ → Data) (w : Walk) (f : ℕ → Data) (v : Walk) (g : ℕ → Data) : Type 0 where
  pub begins : Begins n v
  pub ending : ending_from s v g ≡ ending_from s w f
  pub fewer : length (visits_from s v g) < length (visits_from s w f)

-- so it was, or the section has ended, Blocked or not
abbrev pub WentOrEnded : ℕ → (ℕ → Data) → Walk → (ℕ → Data) → Walk → (ℕ → Data) → Option Bool → Type 0
WentOrEnded n s w f v g None = Went n s w f v g
WentOrEnded n s w f v g (Some b) = b ≡ is_blocked_end (ending_from s w f)

-- an instance with these own components is at Done, or its attempt is Blocked, on these values
abbrev pub stands : Trees → (ℕ → Data) → ℕ → Own → Bool
stands tree f k o = if is_place done (find pc o) then true else is_blocked_end (ending (tree 0 k 1 o) f)

-- so it is of the instances from k on, with these own components
abbrev pub all_stand : Trees → (ℕ → Data) → ℕ → List Own → Bool
all_stand tree f k [] = true
all_stand tree f k (o ∷ os) = if stands tree f k o then all_stand tree f (suc k) os else false

-- some instance isn't at Done
abbrev pub some_undone : List Own → Bool
some_undone [] = false
some_undone (o ∷ os) = if is_place done (find pc o) then some_undone os else true
