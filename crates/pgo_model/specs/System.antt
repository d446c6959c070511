-- What a run has to know of a bound specification, in whatever form it is written: who runs, what is shared, what belongs
-- to whom, where it starts, and what a section does.
use Rattle.std.specs.Prelude.{ℕ, List, map, Option}
use Rattle.pgo_base.specs.Data.{Data}
use Rattle.pgo_base.specs.Lookup.{Name, Vars}
use Rattle.pgo_model.specs.Outcome.{Section}

-- a global as a whole, or one element of it
pub record Resource : Type 0 where
  pub number : ℕ
  pub global : Name
  pub index : Option Data

-- the words of choice
abbrev pub Words : Type 0
Words = ℕ → ℕ

-- a read or a write of a resource: a global, and the index of its element
abbrev pub Touched : Type 0
Touched = Name × Option Data

-- an instance: its identifier, and the globals that it is bound to
pub record Member : Type 0 where
  pub id : Data
  pub globals : List Name

-- a value parameter or a local of a process, with the identifiers of the process, of which there may be none
pub record Owned : Type 0 where
  pub variable : Name
  pub ids : List Data

-- members and resources stand at their numbers, and the variables that belong to instances in the order of the start, where
-- `pc` belongs to all; a section is of a member, on a state, with words of choice
pub record System : Type 0 where
  pub members : List Member
  pub own : List Owned
  pub resources : List Resource
  pub start : Vars
  pub sect : ℕ → Vars → Words → Section Touched Vars

-- the identifiers of the members, by number
abbrev pub ids_of : System → List Data
ids_of y = map (λ i. i.id) y.members
