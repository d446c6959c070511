-- Rule 9: the set of a variable is empty.
use Rattle.std.specs.Prelude.{ℕ, List, ◌++◌, Option}
use Rattle.std.specs.List.{filter_map}
use Rattle.pgo_base.specs.Lookup.{Name}
use Rattle.pgo_base.specs.declared.module.Defined.{Defined}
use Rattle.pgo_syntax.specs.declared.archetype.Archetype.{Archetype}
use Rattle.pgo_heads.specs.declared.findings.Lack.TheVariants.{NoMember}
use Rattle.pgo_bound.specs.Values.{is_empty}
use Rattle.pgo_bound.specs.Runs.{Run}
use Rattle.pgo_bound.specs.BoundOf.{GlobalStart}
use Rattle.pgo_heads.specs.Findings.{where_true, at_place}
use Rattle.pgo_heads.specs.LocalSets.{lacking}

abbrev pub empty_global : GlobalStart → Option (ℕ × Name)
empty_global g = where_true (is_empty g.start) (at_place g.declaration.name)

-- the variables whose set is empty, globals first
abbrev pub sets_empty : List Archetype → List Defined → List Run → List GlobalStart → List (ℕ × Name)
sets_empty as' ds rs gs = filter_map empty_global gs ++ lacking as' ds rs NoMember
