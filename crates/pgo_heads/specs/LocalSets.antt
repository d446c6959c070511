-- The sets behind `\in` of locals: those that are none, and those that are empty.
use Rattle.std.specs.Prelude.{ℕ, Bool, true, false, List, filter, Option, Some, None}
use Rattle.std.specs.List.{filter_map, flat_map, list_any}
use Rattle.pgo_base.specs.Lookup.{Name, same_name}
use Rattle.pgo_base.specs.declared.module.Defined.{Defined}
use Rattle.pgo_syntax.specs.declared.archetype.Archetype.{Archetype}
use Rattle.pgo_syntax.specs.declared.binding.Origin.{Origin}
use Rattle.pgo_syntax.specs.declared.binding.Origin.TheVariants.{Equals, In}
use Rattle.pgo_syntax.specs.declared.declaration.Declaration.{Declaration}
use Rattle.pgo_heads.specs.declared.findings.Lack.{Lack}
use Rattle.pgo_heads.specs.declared.findings.Lack.TheVariants.{NoSet, NoMember}
use Rattle.pgo_bound.specs.Values.{Start, Missing, Empty, Begins, start_in}
use Rattle.pgo_bound.specs.Runs.{Run}
use Rattle.pgo_heads.specs.Findings.{where_true, at_place}

-- the archetypes that a process runs
abbrev pub is_run : List Run → Archetype → Bool
is_run rs a = list_any (λ r. same_name a.name.name r.archetype.name.name) rs

abbrev pub archetypes_run : List Archetype → List Run → List Archetype
archetypes_run as' rs = filter (is_run rs) as'

-- the set behind a local's `\in`, which the identifiers have no part in
abbrev pub local_set : List Defined → Option Origin → Option Start
local_set ds None = None
local_set ds (Some (Equals e)) = None
local_set ds (Some (In e)) = Some (start_in ds e)

-- what is wrong with the set behind `\in`
abbrev pub lacks : Lack → Start → Bool
lacks NoSet Missing = true
lacks NoSet Empty = false
lacks NoSet (Begins v) = false
lacks NoMember Missing = false
lacks NoMember Empty = true
lacks NoMember (Begins v) = false

abbrev pub lacks_in : Lack → Option Start → Bool
lacks_in l None = false
lacks_in l (Some s) = lacks l s

-- a local whose set is none, or is empty
abbrev pub lacking_local : List Defined → Lack → Declaration → Option (ℕ × Name)
lacking_local ds l d = where_true (lacks_in l (local_set ds d.initial)) (at_place d.name)

abbrev pub lacking_in : List Defined → Lack → Archetype → List (ℕ × Name)
lacking_in ds l a = filter_map (lacking_local ds l) a.locals

-- such locals of the archetypes that a process runs
abbrev pub lacking : List Archetype → List Defined → List Run → Lack → List (ℕ × Name)
lacking as' ds rs l = flat_map (lacking_in ds l) (archetypes_run as' rs)
