-- What a board of all instances keeps beside contents and claims.
use Rattle.std.specs.Prelude.{ℕ, Bool, true, false, ◌&&◌, List, [], ◌∷◌, length, Option, Some, None, if◌then◌else◌, nat_eq, nat_le}
use Rattle.pgo_base.specs.Data.{Data}
use Rattle.pgo_base.specs.Lookup.{Vars}
use Rattle.pgo_journal.specs.Journal.{JournalView}
use Rattle.pgo_model.specs.Log.{Effect}
use Rattle.pgo_model.specs.Machine.{Entry, Note, among}
use Rattle.pgo_syntax.specs.declared.records.Refusal.{Refusal}
use Rattle.pgo_syntax.specs.declared.records.Refusal.TheVariants as refusals
use Rattle.pgo_resource.specs.declared.layout.BoardLayout.{BoardLayout}
use Rattle.pgo_resource.specs.Layouts.{layout_view}
use Rattle.pgo_resource.specs.PlainRows.{taken_of, rows}
use Rattle.pgo_workers.specs.View as view
use Rattle.pgo_workers.specs.View.{Shown, state}
use Rattle.pgo_workers.specs.Worlds.{Layout, value_in, are_components_of, world_of}
use Rattle.pgo_core.specs.declared.claims.Claim.{Claim}
use Rattle.pgo_core.specs.Claims.{taken_by}

-- the journal's start is the start of the layout
abbrev pub layout_with : BoardLayout → JournalView → Layout
layout_with l j = record { start = j.start; resources = (layout_view l).resources; ids = (layout_view l).ids; own = (layout_view l).own }

-- the state behind these entries, and the values of resources in it
abbrev pub state_behind : Layout → List (Entry Effect) → Vars
state_behind y es = state (world_of y) es (length es)

abbrev pub values_behind : Layout → List (Entry Effect) → ℕ → Data
values_behind y es = value_in y (state_behind y es)

-- each entry changes components of resources and of its own instance alone
abbrev pub are_own : Layout → List (Entry Effect) → Bool
are_own y [] = true
are_own y (e ∷ es) = are_components_of y e.instance e.change.changes && are_own y es

-- each note is of an instance up to m
abbrev pub are_of_all : ℕ → List Note → Bool
are_of_all m [] = true
are_of_all m (n ∷ ns) = nat_le n.instance m && are_of_all m ns

-- what the latest call was refused by
abbrev pub last_of : Option Refusal → Option view.Refusal
last_of None = None
last_of (Some (refusals.Held r h)) = Some (view.IsHeld r h)
last_of (Some (refusals.Down r o)) = None
last_of (Some (refusals.Many leaves at)) = None
last_of (Some (refusals.Full n)) = Some (view.IsFull n)

-- where it was refused by a holder, that is another instance, and holds it
abbrev pub is_refused : Option Refusal → ℕ → List Claim → Bool
is_refused None k cs = true
is_refused (Some (refusals.Held r h)) k cs = if nat_eq h k then false else among r (taken_of (taken_by h cs))
is_refused (Some (refusals.Down r o)) k cs = true
is_refused (Some (refusals.Many leaves at)) k cs = true
is_refused (Some (refusals.Full n)) k cs = true

-- what instance j sees of these claims, contents and journal
module _ {R : Type 0} (shows : R → Shown) (l : BoardLayout) (resources share : ℕ) (xs : List R) where
  abbrev pub seen_from : List Claim → Option Refusal → JournalView → ℕ → view.View Effect
  seen_from cs last j k = record {
    instance = k;
    resources = resources;
    steps = j.steps;
    share = share;
    held = rows shows (values_behind (layout_with l j) j.entries) xs (taken_by k cs);
    entries = j.entries;
    notes = j.notes;
    told = None;
    last = last_of last;
  }
