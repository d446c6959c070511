-- What a board of one instance holds, and what its contents are.
use Rattle.std.specs.Prelude.{◌≡◌, ◌<◌, ◌⊎◌, ℕ, zero, suc, Bool, true, false, ◌&&◌, List, [], ◌∷◌, map, length, Option, Some, None, if◌then◌else◌, nat_eq, nat_lt}
use Rattle.pgo_base.specs.Data.{Data, boolean}
use Rattle.pgo_base.specs.Lookup.{Vars}
use Rattle.pgo_base.specs.declared.log.Entry.{Entry}
use Rattle.pgo_model.specs.LogView.{entry_view}
use Rattle.pgo_model.specs.Machine.{among, nth}
use Rattle.pgo_model.specs.Operators.{same_data}
use Rattle.pgo_workers.specs.View.{Shown, Hold, along}
use Rattle.pgo_workers.specs.Worlds.{Layout, value_in, are_components_of, world_of}
use Rattle.pgo_resource.specs.declared.taken.Taken.{Taken}

abbrev pub taken_of : List Taken → List ℕ
taken_of [] = []
taken_of (h ∷ hs) = h.resource ∷ taken_of hs

-- without the first of r
abbrev pub without_taken : List Taken → ℕ → List Taken
without_taken [] r = []
without_taken (h ∷ hs) r = if nat_eq h.resource r then hs else h ∷ without_taken hs r

-- all below n, each once
abbrev pub apart : ℕ → List ℕ → Bool
apart n [] = true
apart n (r ∷ rs) = if nat_lt r n then if among r rs then false else apart n rs else false

-- none, or r
abbrev pub fits : Option ℕ → ℕ → Bool
fits None r = true
fits (Some n) r = nat_eq n r

-- each entry is of instance k, and changes components of resources and of k alone
abbrev pub are_of : Layout → ℕ → List Entry → Bool
are_of y k [] = true
are_of y k (e ∷ es) = nat_eq e.instance k && (are_components_of y k (entry_view e).change.changes && are_of y k es)

-- the state behind these entries, and the values of resources in it
abbrev pub state_of : Layout → List Entry → Vars
state_of y es = along (world_of y).patched y.start (map entry_view es) (length (map entry_view es))

abbrev pub values_at : Layout → List Entry → ℕ → Data
values_at y es = value_in y (state_of y es)

abbrev pub nothing : Shown
nothing = record { base = boolean false; current = boolean false; count = 0; number = None }

module _ {R : Type 0} (shows : R → Shown) where
  abbrev pub shown_at : List R → ℕ → Shown
  shown_at [] r = nothing
  shown_at (x ∷ xs) zero = shows x
  shown_at (x ∷ xs) (suc r) = shown_at xs r

  -- a content that isn't held is as its component
  abbrev pub FreeStands : ℕ → (ℕ → Data) → List R → List ℕ → Type 0
  FreeStands n values xs rs =
      (r : ℕ) → r < n → among r rs ≡ false → (same_data (shown_at xs r).base (values r) ≡ true) × (same_data (shown_at xs r).current (values r) ≡ true) × (fits (shown_at xs r).number r ≡ true)

  -- each content is as its component in the start, with no pre-commit, and has its resource's number or none
  abbrev pub FitsStart : Layout → List R → Type 0
  FitsStart y xs =
      (r : ℕ) (c : R) → nth xs r ≡ Some c
      → ((shows c).base ≡ value_in y y.start r) × ((shows c).current ≡ value_in y y.start r) × ((shows c).count ≡ 0) × (((shows c).number ≡ None) ⊎ ((shows c).number ≡ Some r))

  abbrev pub row : (ℕ → Data) → List R → Taken → Hold
  row values xs h = record { resource = h.resource; value = values h.resource; count = h.count; content = shown_at xs h.resource }

  abbrev pub rows : (ℕ → Data) → List R → List Taken → List Hold
  rows values xs [] = []
  rows values xs (h ∷ hs) = row values xs h ∷ rows values xs hs

-- none of the first i is of r
abbrev pub before : ℕ → List Taken → ℕ → Bool
before zero hs r = true
before (suc i) [] r = true
before (suc i) (h ∷ hs) r = if nat_eq h.resource r then false else before i hs r

-- where a content is put: behind all n, if it isn't held
abbrev pub spot : ℕ → ℕ → List ℕ → ℕ
spot n r rs = if among r rs then r else n
